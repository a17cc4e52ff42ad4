-- How an error is printed, and what a context does to it.
use Rattle.std.specs.Prelude.{◌≡◌, List, [], ◌∷◌, ◌++◌, Option, Some, None, codes, ◌⊎◌}
use Rattle.blz_error.specs.Texts.{Bytes}
use Rattle.blz_error.specs.Fault.{Fault}
use Rattle.blz_error.specs.declared.kind.ErrorKind.{ErrorKind}

abbrev pub first_of : List Bytes → Bytes
first_of [] = []
first_of (text ∷ texts) = text

abbrev pub after_first : List Bytes → List Bytes
after_first [] = []
after_first (text ∷ texts) = texts

-- the texts after the first, or nothing where there are none
abbrev pub causes_of : List Bytes → Option (List Bytes)
causes_of [] = None
causes_of (text ∷ []) = None
causes_of (text ∷ cause ∷ causes) = Some (cause ∷ causes)

abbrev pub first_text : Fault → Bytes
first_text e = first_of e.texts

-- each text behind a separator
abbrev pub each_after : Bytes → List Bytes → Bytes
each_after separator [] = []
each_after separator (text ∷ texts) = separator ++ (text ++ each_after separator texts)

-- all texts, joined by a colon and a blank
abbrev pub joined_texts : Fault → Bytes
joined_texts e = first_text e ++ each_after (codes ": ") (after_first e.texts)

-- the causes, each on a line of its own
abbrev pub cause_lines : List Bytes → Bytes
cause_lines [] = []
cause_lines (text ∷ texts) = codes "\n\nCaused by:" ++ each_after (codes "\n    ") (text ∷ texts)

-- the first text, and then the causes
abbrev pub report_of : Fault → Bytes
report_of e = codes "Error: " ++ (first_text e ++ cause_lines (after_first e.texts))

-- an error of one text
abbrev pub fault_of : ErrorKind → Bytes → Fault
fault_of kind text = record { kind = kind; texts = text ∷ []; mismatch = None }

-- a text on top of the others
abbrev pub on_top : Bytes → Fault → Fault
on_top text e = record e { texts = text ∷ e.texts }

-- The text is on top; for want of memory the error is as before.
abbrev pub IsUnder : Bytes → Fault → Fault → Type 0
IsUnder text before after = (after ≡ on_top text before) ⊎ (after ≡ before)

pub record KeepsCause (before after : Fault) : Type 0 where
  pub kind : after.kind ≡ before.kind
  pub mismatch : after.mismatch ≡ before.mismatch

-- The error is one of that kind, with the text of a value that the closure returned.
pub record IsSaid {C : Type 0} (returned : C → Type 0) (text_of : C → Bytes) (kind : ErrorKind) (e : Fault) : Type 0 where
  pub value : C
  pub called : returned value
  pub said : e ≡ fault_of kind (text_of value)

-- The error is under the text of a value that the closure returned.
pub record IsUnderSaid {C : Type 0} (returned : C → Type 0) (text_of : C → Bytes) (before after : Fault) : Type 0 where
  pub value : C
  pub called : returned value
  pub under : IsUnder (text_of value) before after

-- the texts of causes that may not be there
abbrev pub texts_in : Option (List Bytes) → List Bytes
texts_in None = []
texts_in (Some texts) = texts
