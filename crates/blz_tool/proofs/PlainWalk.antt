-- How the simple command walks over words that name no option.
use Rattle.std.proofs.Common.{◌≡◌, ◌≤◌, ◌-◌, ◌++◌, ◌∷◌, ◌∙◌, ℕ, Bool, true, false, not, ◌==◌, ◌&&◌, List, [], fold, map, length, take, drop, Some, None, Option, Bor, codes, refl, sym, ap, subst, append_assoc, arith, if◌then◌else◌}
use Rattle.std.specs.List.{list_all}
use Rattle.std.specs.Option.{option_and_then}
use Rattle.std.specs.Prelude.{slice_index_or}
use Rattle.std.specs.Str.{bytes_eq}
use Rattle.std.proofs.lemmas.List.{append-nil, take_all}
use Rattle.std.proofs.lemmas.List.Folds.{list_all-map}
use Rattle.clap.specs.Lexer.{long_of, long_of_rest, short_of, short_of_rest, strip_byte}
use Rattle.clap.specs.Simple.{built, matches_of, names_of}
use Rattle.clap.specs.Walk.{Held, Names, Rule, Step, Text, Walk, after_step, finished, idle, long_or_other, nothing_held, positional, settled, short_or_plain, trailing, value, walk, walk_from, walked, word_met}
use Rattle.blz_error.specs.Texts.{Bytes}
use Rattle.blz_elf.specs.declared.opts.FindSymOpts.TheVariants.{CodeInfoAndInlined}
use Rattle.blz_tool.specs.CommandLine.{Lookup, form_of, tool_app}
use Rattle.blz_tool.specs.PlainWords.{is_plain}

abbrev pub rules : List Rule
rules = (built tool_app).top.rules

abbrev pub names : Names
names = names_of (built tool_app)

-- ---- a word that names no option is a value

is_false : (b : Bool) → not b ≡ true → b ≡ false
is_false true e = absurd cc
is_false false e = refl

no_strip : (word : Text) → is_plain word ≡ true → strip_byte 45 word ≡ None
no_strip [] plain = refl
no_strip (b ∷ bs) plain = ap (λ (t : Bool). if t then Some bs else None) (is_false (b == 45) plain)

not_end : (word : Text) → is_plain word ≡ true → bytes_eq word (45 ∷ 45 ∷ []) ≡ false
not_end [] plain = refl
not_end (b ∷ bs) plain = ap (λ (t : Bool). t && bytes_eq bs (45 ∷ [])) (is_false (b == 45) plain)

pub no_long : (word : Text) → is_plain word ≡ true → long_of word ≡ None
no_long word plain = ap (λ (o : Option Text). option_and_then long_of_rest (option_and_then (strip_byte 45) o)) (no_strip word plain)

pub no_short : (word : Text) → is_plain word ≡ true → short_of word ≡ None
no_short word plain = ap (λ (o : Option Text). option_and_then short_of_rest o) (no_strip word plain)

pub met_idle : (position : ℕ) (word : Text) (h : Held) → is_plain word ≡ true → word_met rules names false idle position word h ≡ (h, value)
met_idle position word h plain =
    ap (λ (b : Bool). if b then (h, trailing position) else long_or_other rules idle word (long_of word) h) (not_end word plain)
    ∙ ap (λ (o : Option (Text × Option Text)). long_or_other rules idle word o h) (no_long word plain)
    ∙ ap (λ (o : Option Text). short_or_plain rules idle word o h) (no_short word plain)

pub met_positional : (position : ℕ) (word : Text) (h : Held) → is_plain word ≡ true → word_met rules names false positional position word h ≡ (h, value)
met_positional position word h plain =
    ap (λ (b : Bool). if b then (h, trailing position) else long_or_other rules positional word (long_of word) h) (not_end word plain)
    ∙ ap (λ (o : Option (Text × Option Text)). long_or_other rules positional word o h) (no_long word plain)
    ∙ ap (λ (o : Option Text). short_or_plain rules positional word o h) (no_short word plain)

-- ---- the walk

-- the first word is the path, and waits to be used
abbrev pub after_path : Text → Walk
after_path path = record {
  held = record { rows = []; pending = Some (codes "path", path ∷ []); skip = 0 };
  waiting = idle;
  position = 2;
  is_trailing = false;
  stopped = None;
}

-- the path is used, and the words after it wait as addresses
abbrev pub after_addrs : Text → List Text → Walk
after_addrs path words = record {
  held = record (settled rules (after_path path).held) { pending = Some (codes "addrs", words) };
  waiting = positional;
  position = 2;
  is_trailing = false;
  stopped = None;
}

pub step_path : (path : Text) → is_plain path ≡ true → walked rules names (walk_from nothing_held) path ≡ after_path path
unfolding walked
step_path path plain = ap (λ (met : Held × Step). after_step rules path (walk_from nothing_held) met.0 met.1) (met_idle 1 path nothing_held plain)

pub step_first : (path word : Text) → is_plain word ≡ true → walked rules names (after_path path) word ≡ after_addrs path (word ∷ [])
unfolding walked
step_first path word plain = ap (λ (met : Held × Step). after_step rules word (after_path path) met.0 met.1) (met_idle 2 word (after_path path).held plain)

pub step_more : (path : Text) (words : List Text) (word : Text) → is_plain word ≡ true → walked rules names (after_addrs path words) word ≡ after_addrs path (words ++ word ∷ [])
unfolding walked
step_more path words word plain = ap (λ (met : Held × Step). after_step rules word (after_addrs path words) met.0 met.1) (met_positional 2 word (after_addrs path words).held plain)

pub both : (a b : Bool) → (a && b) ≡ true → (a ≡ true) × (b ≡ true)
both true true e = (refl, refl)
both true false e = absurd cc
both false b e = absurd cc

all_more : (path : Text) (words rest : List Text) → list_all is_plain rest ≡ true → fold (walked rules names) (after_addrs path words) rest ≡ after_addrs path (words ++ rest)
all_more path words [] plain = ap (λ (ws : List Text). after_addrs path ws) (sym (append-nil words))
all_more path words (word ∷ rest) plain =
    let each = both (is_plain word) (list_all is_plain rest) plain in
    ap (λ (w : Walk). fold (walked rules names) w rest) (step_more path words word each.0)
    ∙ all_more path (words ++ word ∷ []) rest each.1
    ∙ ap (λ (ws : List Text). after_addrs path ws) (append_assoc words (word ∷ []) rest)

-- the whole walk, over a path and at least one address
pub walk_more : (path word : Text) (rest : List Text) → is_plain path ≡ true → is_plain word ≡ true → list_all is_plain rest ≡ true → walk rules names nothing_held (path ∷ word ∷ rest) ≡ after_addrs path (word ∷ rest)
walk_more path word rest path_plain word_plain rest_plain =
    ap (λ (w : Walk). fold (walked rules names) w (word ∷ rest)) (step_path path path_plain)
    ∙ ap (λ (w : Walk). fold (walked rules names) w rest) (step_first path word word_plain)
    ∙ all_more path (word ∷ []) rest rest_plain

plain_words : (path : Text) (rest : List Text) → is_plain path ≡ true → list_all is_plain rest ≡ true → form_of (finished rules (walk rules names nothing_held (path ∷ rest)).held) ≡ Lookup CodeInfoAndInlined None path rest
plain_words path [] plain all = ap (λ (w : Walk). form_of (finished rules w.held)) (step_path path plain)
plain_words path (word ∷ rest) plain all =
    let each = both (is_plain word) (list_all is_plain rest) all in
    ap (λ (w : Walk). form_of (finished rules w.held)) (walk_more path word rest plain each.0 each.1)

-- the program's name, a path and addresses
pub plain_given : (given : List (Bor Bytes)) (d : Bor Bytes) → 2 ≤ length given → is_plain (slice_index_or given 1 d).now ≡ true
    → list_all (λ (w : Bor Bytes). is_plain w.now) (take (length given - 2) (drop 2 given)) ≡ true
    → Lookup CodeInfoAndInlined None (slice_index_or given 1 d).now (map (λ (w : Bor Bytes). w.now) (take (length given - 2) (drop 2 given))) ≡ form_of (matches_of tool_app (map (λ (w : Bor Bytes). w.now) given))
plain_given [] d long plain all = absurd (omega arith)
plain_given (name ∷ []) d long plain all = absurd (omega arith)
plain_given (name ∷ path ∷ rest) d long plain all =
    let whole : take (length (name ∷ path ∷ rest) - 2) rest ≡ rest = take_all (length (name ∷ path ∷ rest) - 2) rest (omega arith) in
    let P : List (Bor Bytes) → Type 0 = λ ws. list_all (λ (w : Bor Bytes). is_plain w.now) ws ≡ true in
    ap (λ (ws : List (Bor Bytes)). Lookup CodeInfoAndInlined None path.now (map (λ (w : Bor Bytes). w.now) ws)) whole
    ∙ sym (plain_words path.now (map (λ (w : Bor Bytes). w.now) rest) plain (list_all-map is_plain (λ (w : Bor Bytes). w.now) rest ∙ subst P whole all))
