-- The kinds of what opening refuses, and when it refuses that a file is not there.
use Rattle.std.proofs.Common.{◌≡◌, Bool, true, false, cond, List, [], ◌∷◌, Option, Some, None, find, is_some, refl, subst}
use Rattle.std.specs.Prelude.{⊤, option_and_then}
use Rattle.std.specs.FinMap as map
use Rattle.std.specs.Option.{option_map}
use Rattle.std.specs.Str.{bytes_eq}
use Rattle.blz_error.specs.Texts.{Bytes}
use Rattle.blz_error.specs.declared.kind.ErrorKind.{ErrorKind}
use Rattle.blz_error.specs.declared.kind.ErrorKind.TheVariants as kind
use Rattle.blz_links.specs.Contents.{Contents}
use Rattle.blz_links.specs.Candidates.{candidates}
use Rattle.blz_links.specs.LinkValues.{DebugSupValue}
use Rattle.blz_links.specs.BuildIds.{build_id_of}
use Rattle.blz_bundle.specs.Alternative.{alternative, altlink_lead, same_build_id}
use Rattle.blz_bundle.specs.FileAnswers.{Answers, StepAnswers, told, told_steps}
use Rattle.blz_bundle.specs.Following.{Lead, checked, followed, led, read_at, read_found}
use Rattle.blz_bundle.specs.Linked.{linked, link_lead}
use Rattle.blz_bundle.specs.Opened.{Opened, Refused, ◌>>=◌, agreeing}
use Rattle.blz_bundle.specs.OpenFiles.{FileAt, debug_of}
use Rattle.blz_bundle.specs.Opening.{opened_by, or_supplementary, shared}
use Rattle.blz_bundle.specs.Supplementary.{supplementary, sup_lead, is_supplementary}
use Rattle.blz_bundle.proofs.LinkKinds.{marks_debug_link, marks_altlink, marks_sup}
use Rattle.blz_bundle.proofs.Marks.{Refuses, OnRefused, refuses_found, refuses_part, refuses_bind, refuses_or}

-- Facts of kinds: that of a broken link section or of a check.
record Holds (K : ErrorKind → Type 0) : Type 0 where
  data_kind : K kind.InvalidData
  form_kind : K kind.Unsupported

-- ---- a step

-- A link that is followed is refused by the files that it leads to, or by its check.
abbrev Follows : (ErrorKind → Type 0) → Answers → List Bytes → Type 0
Follows K a dirs = (from : FileAt) (target : Bytes) (build_id : Option Bytes) → Refuses K (followed a dirs from target build_id)

refuses_agreeing : (K : ErrorKind → Type 0) → K kind.InvalidData → (b : Bool) (actual recorded : Bytes) → Refuses K (agreeing b actual recorded)
refuses_agreeing K is true actual recorded = record { kind = tt }
refuses_agreeing K is false actual recorded = record { kind = is }

refuses_checked : (K : ErrorKind → Type 0) (passes : FileAt → Opened (Unit {0})) (o : Option FileAt) → ((file : FileAt) → Refuses K (passes file)) → Refuses K (checked passes o)
refuses_checked K passes None each = refuses_found K None
refuses_checked K passes (Some file) each = refuses_bind K (passes file) _ (each file) (λ passed. refuses_found K (Some file))

-- the check of a link refuses by such a kind, where there is a link
abbrev PassesBy : (ErrorKind → Type 0) → Option Lead → Type 0
PassesBy K None = ⊤
PassesBy K (Some lead) = (file : FileAt) → Refuses K (lead.passes file)

refuses_led : (K : ErrorKind → Type 0) (a : Answers) (dirs : List Bytes) (from : FileAt) (lead : Option Lead) → Follows K a dirs → PassesBy K lead → Refuses K (led a dirs from lead)
unfolding led
refuses_led K a dirs from None follows each = refuses_found K None
refuses_led K a dirs from (Some lead) follows each = refuses_bind K (followed a dirs from lead.target lead.build_id) _ (follows from lead.target lead.build_id) (λ file. refuses_checked K lead.passes file each)

refuses_linked : (K : ErrorKind → Type 0) → Holds K → (a : Answers) (dirs : List Bytes) (main : FileAt) → Follows K a dirs → Refuses K (linked a dirs main)
unfolding linked
refuses_linked K h a dirs main follows = refuses_bind K _ _ (refuses_part K _ (marks_debug_link K h.data_kind h.form_kind main.image)) (λ link. refuses_led K a dirs main _ follows (by_link link))
  where
    by_link : (link : Option _) → PassesBy K (option_map (link_lead main.image) link)
    by_link None = tt
    by_link (Some link) = λ file. refuses_agreeing K h.data_kind _ _ _

refuses_alternative : (K : ErrorKind → Type 0) → Holds K → (a : Answers) (dirs : List Bytes) (debug : FileAt) → Follows K a dirs → Refuses K (alternative a dirs debug)
unfolding alternative
refuses_alternative K h a dirs debug follows = refuses_bind K _ _ (refuses_part K _ (marks_altlink K h.data_kind h.form_kind debug.image)) (λ link. refuses_led K a dirs debug _ follows (by_link link))
  where
    by_id : (actual : Option Bytes) (recorded : Bytes) → Refuses K (same_build_id actual recorded)
    by_id None recorded = record { kind = h.data_kind }
    by_id (Some actual) recorded = refuses_agreeing K h.data_kind _ _ _

    by_link : (link : Option _) → PassesBy K (option_map altlink_lead link)
    by_link None = tt
    by_link (Some link) = λ file. by_id (build_id_of file.image) link.build_id

refuses_sup : (K : ErrorKind → Type 0) → Holds K → (checksum : Bytes) (file : FileAt) → Refuses K (is_supplementary checksum file)
refuses_sup K h checksum file =
    refuses_bind K _ _ (refuses_part K _ (marks_sup K h.data_kind h.form_kind file.image)) (λ read.
    refuses_bind K _ _ (refuses_or K read kind.InvalidData h.data_kind) (λ section.
    refuses_bind K _ _ (refuses_agreeing K h.data_kind section.is_supplementary (0 ∷ []) (1 ∷ [])) (λ flag. refuses_agreeing K h.data_kind (bytes_eq section.checksum checksum) section.checksum checksum)))

refuses_supplementary : (K : ErrorKind → Type 0) → Holds K → (a : Answers) (dirs : List Bytes) (debug : FileAt) → Follows K a dirs → Refuses K (supplementary a dirs debug)
unfolding supplementary
refuses_supplementary K h a dirs debug follows = refuses_bind K _ _ (refuses_part K _ (marks_sup K h.data_kind h.form_kind debug.image)) (λ sup. refuses_led K a dirs debug _ follows (by_sup sup))
  where
    by_path : (checksum : Bytes) (path : Option Bytes) → PassesBy K (option_map (λ path. let lead : Lead = record { target = path; build_id = None; passes = is_supplementary checksum } in lead) path)
    by_path checksum None = tt
    by_path checksum (Some path) = refuses_sup K h checksum

    by_sup : (sup : Option DebugSupValue) → PassesBy K (option_and_then sup_lead sup)
    by_sup None = tt
    by_sup (Some sup) = by_path sup.checksum sup.path

-- ---- all steps

record FollowsEach (K : ErrorKind → Type 0) (a : StepAnswers) (dirs : List Bytes) : Type 0 where
  linked : Follows K a.linked dirs
  alternative : Follows K a.alternative dirs
  supplementary : Follows K a.supplementary dirs

refuses_shared : (K : ErrorKind → Type 0) → Holds K → (a : StepAnswers) (dirs : List Bytes) (debug : FileAt) → FollowsEach K a dirs → Refuses K (shared a dirs debug)
unfolding shared
refuses_shared K h a dirs debug follows = refuses_bind K _ _ (refuses_alternative K h a.alternative dirs debug follows.alternative) by_file
  where
    by_file : (file : Option FileAt) → Refuses K (or_supplementary a dirs debug file)
    by_file None = refuses_supplementary K h a.supplementary dirs debug follows.supplementary
    by_file (Some file) = refuses_found K (Some file)

refuses_opened : (K : ErrorKind → Type 0) → Holds K → (a : StepAnswers) (path : Bytes) (dirs : List Bytes) → FollowsEach K a dirs → Refuses K (read_at a.main path) → Refuses K (opened_by a path dirs)
unfolding opened_by
refuses_opened K h a path dirs follows first =
    refuses_bind K _ _ first (λ main.
    refuses_bind K _ _ (refuses_linked K h a.linked dirs main follows.linked) (λ linkee.
    refuses_bind K _ _ (refuses_shared K h a dirs (debug_of main linkee) follows) (λ sup. refuses_found K _)))

refuses_read : (K : ErrorKind → Type 0) → K kind.NotFound → (a : Answers) (path : Bytes) → Refuses K (read_at a path)
refuses_read K is a path = refuses_bind K _ _ (refuses_or K (a.held path) kind.NotFound is) (λ image. refuses_found K _)

-- ---- whatever the files answer

refuses_followed : (K : ErrorKind → Type 0) → K kind.NotFound → (a : Answers) (dirs : List Bytes) → Follows K a dirs
unfolding followed
refuses_followed K is a dirs from target build_id = by_path (find a.is_there (candidates dirs (Some (a.known_as from.path)) target build_id))
  where
    by_path : (o : Option Bytes) → Refuses K (read_found a o)
    by_path None = refuses_found K None
    by_path (Some path) = refuses_bind K _ _ (refuses_read K is a path) (λ file. refuses_found K _)

-- the kinds of what is refused
abbrev pub IsMark : ErrorKind → Type 0
IsMark kind.NotFound = ⊤
IsMark kind.InvalidData = ⊤
IsMark kind.Unsupported = ⊤
IsMark k = ⊥

on_refused : {A : Type 0} (K : ErrorKind → Type 0) (o : Opened A) (k : ErrorKind) (v : Option (Bytes × Bytes)) → o ≡ Refused k v → Refuses K o → K k
on_refused {A = A} K o k v is refuses = let P : Opened A → Type 0 = λ o. OnRefused K o in subst P is refuses.kind

pub opened_marks : (a : StepAnswers) (path : Bytes) (dirs : List Bytes) (k : ErrorKind) (v : Option (Bytes × Bytes)) → opened_by a path dirs ≡ Refused k v → IsMark k
opened_marks a path dirs k v is =
    on_refused IsMark _ k v is (refuses_opened IsMark (record { data_kind = tt; form_kind = tt }) a path dirs
    (record { linked = refuses_followed IsMark tt a.linked dirs; alternative = refuses_followed IsMark tt a.alternative dirs; supplementary = refuses_followed IsMark tt a.supplementary dirs })
    (refuses_read IsMark tt a.main path))

-- ---- where the contents are told

passes_step : (p : Bytes → Bool) (b : Bool) (x path : Bytes) (later : Option Bytes) → p x ≡ b → cond b (Some x) later ≡ Some path → (later ≡ Some path → p path ≡ true) → p path ≡ true
passes_step p true x path later is e rest = let same : x ≡ path = cc in rw (← same) is
passes_step p false x path later is e rest = rest e

found_passes : (p : Bytes → Bool) (paths : List Bytes) (path : Bytes) → find p paths ≡ Some path → p path ≡ true
found_passes p [] path e = absurd cc
found_passes p (x ∷ paths) path e = passes_step p (p x) x path (find p paths) refl e (found_passes p paths path)

-- a candidate that is there is read
told_followed : (K : ErrorKind → Type 0) (c : Contents) (dirs : List Bytes) → Follows K (told c) dirs
unfolding followed
told_followed K c dirs from target build_id = by_path (find (λ path. is_some (map.get c path)) (candidates dirs (Some from.path) target build_id)) refl
  where
    by_held : (path : Bytes) (held : Option Bytes) → map.get c path ≡ held → is_some held ≡ true → Refuses K (read_at (told c) path)
    by_held path None e there = absurd cc
    by_held path (Some image) e there = rw e (refuses_found K _)

    by_path : (o : Option Bytes) → find (λ path. is_some (map.get c path)) (candidates dirs (Some from.path) target build_id) ≡ o → Refuses K (read_found (told c) o)
    by_path None e = refuses_found K None
    by_path (Some path) e = refuses_bind K _ _ (by_held path (map.get c path) refl (found_passes (λ path. is_some (map.get c path)) _ path e)) (λ file. refuses_found K _)

-- NotFound is refused only where the path itself is not there
pub opened_lacks : (c : Contents) (path : Bytes) (dirs : List Bytes) (v : Option (Bytes × Bytes)) → opened_by (told_steps c) path dirs ≡ Refused kind.NotFound v → map.get c path ≡ None
opened_lacks c path dirs v is = on_refused Lacking _ kind.NotFound v is (refuses_opened Lacking (record { data_kind = tt; form_kind = tt }) (told_steps c) path dirs
    (record { linked = told_followed Lacking c dirs; alternative = told_followed Lacking c dirs; supplementary = told_followed Lacking c dirs }) (by_held (map.get c path) refl))
  where
    Lacking : ErrorKind → Type 0
    Lacking kind.NotFound = map.get c path ≡ None
    Lacking k = ⊤

    by_held : (held : Option Bytes) → map.get c path ≡ held → Refuses Lacking (read_at (told c) path)
    by_held None e = refuses_bind Lacking _ _ (refuses_or Lacking _ kind.NotFound e) (λ image. refuses_found Lacking _)
    by_held (Some image) e = rw e (refuses_found Lacking _)
