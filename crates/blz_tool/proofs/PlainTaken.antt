-- The simple command takes a path and words that name no option.
use Rattle.std.proofs.Common.{◌≡◌, ◌≤◌, ◌<◌, ◌+◌, ◌^◌, ◌++◌, ◌∷◌, ◌∙◌, ℕ, suc, Bool, true, false, ◌&&◌, ◌||◌, List, [], length, fold, Some, None, Option, refl, sym, ap, subst, arith, is_some, nat_le}
use Rattle.std.proofs.lemmas.Bool.{le-leb}
use Rattle.std.specs.List.{list_all}
use Rattle.std.specs.Option.{option_map_or}
use Rattle.std.specs.Str.{bytes_eq}
use Rattle.clap.specs.Lexer.{usize_max}
use Rattle.clap.specs.Simple.{Shape, built, entered}
use Rattle.clap.specs.Takes.{bundle_passes, default_passes, entered_passes, flag_word_passes, is_valid, other_passes, settle_passes, step_passes, turn_passes, walk_passes, word_passes}
use Rattle.clap.specs.Walk.{Held, Step, Text, Waiting, Walk, finished, idle, nothing_held, positional, subcommand_met, walk_from}
use Rattle.blz_tool.specs.CommandLine.{is_taken, tool_app}
use Rattle.blz_tool.specs.PlainWords.{is_plain}
use Rattle.blz_tool.proofs.PlainWalk.{after_addrs, after_path, both, met_idle, met_positional, names, no_long, no_short, rules, step_first, step_more, step_path, walk_more}

abbrev top : Shape
top = (built tool_app).top

abbrev again : Bool
again = top.args_override_self

or_true : (b : Bool) → (b || true) ≡ true
or_true true = refl
or_true false = refl

and_true : (a b : Bool) → a ≡ true → b ≡ true → (a && b) ≡ true
and_true true b e f = f
and_true false b e f = e

-- ---- each word passes

passes_word : (waiting : Waiting) (word : Text) (h : Held) → subcommand_met names waiting word ≡ None → is_plain word ≡ true → word_passes top names false waiting word h ≡ true
passes_word waiting word h none plain =
    ap (λ (o : Option Text). other_passes top o word h) none
    ∙ ap (λ (o : Option (Text × Option Text)). bytes_eq word (45 ∷ 45 ∷ []) || flag_word_passes rules again o word h) (no_long word plain)
    ∙ ap (λ (o : Option Text). bytes_eq word (45 ∷ 45 ∷ []) || option_map_or (λ flags. bundle_passes rules again flags h) o true) (no_short word plain)
    ∙ or_true (bytes_eq word (45 ∷ 45 ∷ []))

passes_path : (path : Text) → is_plain path ≡ true → turn_passes top names (walk_from nothing_held) path ≡ true
passes_path path plain =
    ap (λ (met : Held × Step). word_passes top names false idle path nothing_held && step_passes top 1 met.0 met.1) (met_idle 1 path nothing_held plain)
    ∙ and_true _ _ (passes_word idle path nothing_held refl plain) refl

passes_first : (path word : Text) → is_plain word ≡ true → turn_passes top names (after_path path) word ≡ true
passes_first path word plain =
    ap (λ (met : Held × Step). word_passes top names false idle word (after_path path).held && step_passes top 2 met.0 met.1) (met_idle 2 word (after_path path).held plain)
    ∙ and_true _ _ (passes_word idle word (after_path path).held refl plain) refl

passes_more : (path : Text) (words : List Text) (word : Text) → is_plain word ≡ true → turn_passes top names (after_addrs path words) word ≡ true
passes_more path words word plain =
    ap (λ (met : Held × Step). word_passes top names false positional word (after_addrs path words).held && step_passes top 2 met.0 met.1) (met_positional 2 word (after_addrs path words).held plain)
    ∙ and_true _ _ (passes_word positional word (after_addrs path words).held refl plain) refl

passes_rest : (path : Text) (words rest : List Text) → list_all is_plain rest ≡ true → walk_passes top names (after_addrs path words) rest ≡ true
unfolding walk_passes
passes_rest path words [] plain = refl
passes_rest path words (word ∷ rest) plain =
    let each = both (is_plain word) (list_all is_plain rest) plain in
    and_true _ _ (passes_more path words word each.0)
    (ap (λ (w : Walk). walk_passes top names w rest) (step_more path words word each.0) ∙ passes_rest path (words ++ word ∷ []) rest each.1)

-- ---- the words as a whole

-- what is left to test after a walk
abbrev ends : Walk → Bool → Bool
ends w passed = entered_passes (built tool_app) w.stopped
    && (passed && (settle_passes rules again w.held && (list_all default_passes rules && is_valid top (finished rules w.held) (is_some (entered (built tool_app) w.stopped)))))

all_true : (words : List Text) → list_all (λ (word : Text). true) words ≡ true
all_true [] = refl
all_true (word ∷ words) = all_true words

path_alone : (path : Text) → is_plain path ≡ true → is_taken (path ∷ []) ≡ true
unfolding walk_passes
path_alone path plain =
    ap (λ (w : Walk). ends w (turn_passes top names (walk_from nothing_held) path && true)) (step_path path plain)
    ∙ ap (λ (b : Bool). ends (after_path path) (b && true)) (passes_path path plain)

all_pass : (path word : Text) (rest : List Text) → is_plain path ≡ true → is_plain word ≡ true → list_all is_plain rest ≡ true → walk_passes top names (walk_from nothing_held) (path ∷ word ∷ rest) ≡ true
unfolding walk_passes
all_pass path word rest path_plain word_plain rest_plain =
    and_true _ _ (passes_path path path_plain)
    (ap (λ (w : Walk). walk_passes top names w (word ∷ rest)) (step_path path path_plain)
    ∙ and_true _ _ (passes_first path word word_plain)
    (ap (λ (w : Walk). walk_passes top names w rest) (step_first path word word_plain) ∙ passes_rest path (word ∷ []) rest rest_plain))

settles : (path word : Text) (rest : List Text) → length (word ∷ rest) ≤ usize_max → settle_passes rules again (after_addrs path (word ∷ rest)).held ≡ true
settles path word rest few =
    and_true _ _ (le-leb 1 (length (word ∷ rest)) (omega arith))
    (and_true _ _ (le-leb (length (word ∷ rest)) usize_max few) (all_true (word ∷ rest)))

path_and_more : (path word : Text) (rest : List Text) → is_plain path ≡ true → is_plain word ≡ true → list_all is_plain rest ≡ true → length (word ∷ rest) ≤ usize_max → is_taken (path ∷ word ∷ rest) ≡ true
path_and_more path word rest path_plain word_plain rest_plain few =
    ap (λ (w : Walk). ends w (walk_passes top names (walk_from nothing_held) (path ∷ word ∷ rest))) (walk_more path word rest path_plain word_plain rest_plain)
    ∙ ap (λ (b : Bool). ends (after_addrs path (word ∷ rest)) b) (all_pass path word rest path_plain word_plain rest_plain)
    ∙ and_true _ _ (settles path word rest few) refl

-- a path and words, of which none names an option
pub plain_taken : (path : Text) (words : List Text) → is_plain path ≡ true → list_all is_plain words ≡ true → length words < 2 ^ 64 → is_taken (path ∷ words) ≡ true
plain_taken path [] path_plain words_plain few = path_alone path path_plain
plain_taken path (word ∷ rest) path_plain words_plain few =
    let each = both (is_plain word) (list_all is_plain rest) words_plain in
    path_and_more path word rest path_plain each.0 each.1 (omega (arith, few))
