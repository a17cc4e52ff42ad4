-- A step that follows the link of an image.
use Rattle.std.proofs.Common.{◌≡◌, Bool, List, [], ◌∷◌, Option, Some, None, Result, refl, ap, ◌∙◌, sym}
use Rattle.std.specs.Option.{option_map}
use Rattle.std.specs.Prelude.{option_and_then}
use Rattle.std.specs.Str.{bytes_eq}
use Rattle.blz_error.specs.Fault.{Fault}
use Rattle.blz_error.specs.Texts.{Bytes}
use Rattle.blz_error.specs.declared.kind.ErrorKind.{ErrorKind}
use Rattle.blz_error.specs.declared.kind.ErrorKind.TheVariants.{InvalidData}
use Rattle.blz_model.specs.Part.{Part, Good, Broken}
use Rattle.blz_links.specs.Contents.{Contents}
use Rattle.blz_links.specs.LinkReads.{debug_link_in, debug_altlink_in, debug_sup_in}
use Rattle.blz_links.specs.LinkValues.{DebugLinkValue, DebugAltlinkValue, DebugSupValue}
use Rattle.blz_bundle.specs.Alternative.{alternative, altlink_lead}
use Rattle.blz_bundle.specs.FileAnswers.{Answers, Finds}
use Rattle.blz_bundle.specs.Following.{Lead, checked, followed, led}
use Rattle.blz_bundle.specs.Linked.{linked, link_lead}
use Rattle.blz_bundle.specs.Opened.{Opened, Found, Refused, ◌>>=◌, agreeing}
use Rattle.blz_bundle.specs.OpenFiles.{FileAt}
use Rattle.blz_bundle.specs.Outcomes.{Concludes}
use Rattle.blz_bundle.specs.Supplementary.{is_supplementary, supplementary, sup_lead}
use Rattle.blz_bundle.proofs.Findings.{concludes_on, finds_any, finds_on}

-- ---- a link that was read

led_none : (a : Answers) (dirs : List Bytes) (from : FileAt) → led a dirs from None ≡ Found None
unfolding led
led_none a dirs from = refl

led_by : (a : Answers) (dirs : List Bytes) (from : FileAt) (lead : Lead) (r : Opened (Option FileAt)) → followed a dirs from lead.target lead.build_id ≡ r → led a dirs from (Some lead) ≡ (r >>= λ file. checked lead.passes file)
unfolding led
led_by a dirs from lead r follow = rw follow refl

-- where the link leads
abbrev pub LeadsTo : (Answers → Opened (Option FileAt)) → List Bytes → FileAt → Option Lead → Type 0
LeadsTo step dirs from lead = (a : Answers) → step a ≡ led a dirs from lead

pub led_nowhere : (contents : Option Contents) (step : Answers → Opened (Option FileAt)) (dirs : List Bytes) (from : FileAt) → LeadsTo step dirs from None → Finds contents step (Found None)
led_nowhere contents step dirs from leads = finds_any contents step _ (λ a. leads a ∙ led_none a dirs from)

module _ (contents : Option Contents) (step : Answers → Opened (Option FileAt)) (dirs : List Bytes) (from : FileAt) (lead : Lead) where
  ends : (r s : Opened (Option FileAt)) → LeadsTo step dirs from (Some lead) → (r >>= λ file. checked lead.passes file) ≡ s → Finds contents (λ a. followed a dirs from lead.target lead.build_id) r → Finds contents step s
  ends r s leads so found = finds_on contents _ step r s (λ a follow. leads a ∙ led_by a dirs from lead r follow ∙ so) found

  pub led_refused : (k : ErrorKind) (v : Option (Bytes × Bytes)) → LeadsTo step dirs from (Some lead) → Finds contents (λ a. followed a dirs from lead.target lead.build_id) (Refused k v) → Finds contents step (Refused k v)
  led_refused k v leads found = ends (Refused k v) (Refused k v) leads refl found

  pub led_unfound : LeadsTo step dirs from (Some lead) → Finds contents (λ a. followed a dirs from lead.target lead.build_id) (Found None) → Finds contents step (Found None)
  led_unfound leads found = ends (Found None) (Found None) leads refl found

  pub led_there : (file : FileAt) → LeadsTo step dirs from (Some lead) → lead.passes file ≡ Found tt → Finds contents (λ a. followed a dirs from lead.target lead.build_id) (Found (Some file)) → Finds contents step (Found (Some file))
  led_there file leads passes found = ends (Found (Some file)) (Found (Some file)) leads (ap (λ p. p >>= λ passed. Found (Some file)) passes) found

  pub led_differs : (file : FileAt) (k : ErrorKind) (v : Option (Bytes × Bytes)) → LeadsTo step dirs from (Some lead) → lead.passes file ≡ Refused k v → Finds contents (λ a. followed a dirs from lead.target lead.build_id) (Found (Some file)) → Finds contents step (Refused k v)
  led_differs file k v leads passes found = ends (Found (Some file)) (Refused k v) leads (ap (λ p. p >>= λ passed. Found (Some file)) passes) found

-- by what is known of the link
pub leads_by : {X : Type 0} (view : X → Lead) (dirs : List Bytes) (from : FileAt) (link known : Option X) → link ≡ known → LeadsTo (λ a. led a dirs from (option_map view link)) dirs from (option_map view known)
leads_by view dirs from link known is = λ a. ap (λ o. led a dirs from (option_map view o)) is

-- what a link leads to is what a step finds that follows it
pub step_leads : {X : Type 0} (view : X → Option FileAt) (contents : Option Contents) (step : Answers → Opened (Option FileAt)) (dirs : List Bytes) (from : FileAt) (lead seen : Option Lead) (r : Result X Fault) (F : Type 0)
    → LeadsTo step dirs from lead → seen ≡ lead → Concludes view r F (Finds contents (λ a. led a dirs from seen)) → Concludes view r F (Finds contents step)
step_leads view contents step dirs from lead seen r F leads same = concludes_on view (λ o. o) r F F _ _ (λ rose. rose) (λ x is. on (Found x) is) (λ k v is. on (Refused k v) is)
  where
    on : (found : Opened (Option FileAt)) → Finds contents (λ a. led a dirs from seen) found → Finds contents step found
    on found is = finds_on contents (λ a. led a dirs from seen) step found found (λ a e. leads a ∙ ap (led a dirs from) (sym same) ∙ e) is

-- ---- the debug link

pub linked_broken : (contents : Option Contents) (dirs : List Bytes) (main : FileAt) (k : ErrorKind) → debug_link_in main.image ≡ Broken k → Finds contents (λ a. linked a dirs main) (Refused k None)
unfolding linked
linked_broken contents dirs main k broken = finds_any contents _ _ (λ a. rw broken refl)

pub linked_leads : (dirs : List Bytes) (main : FileAt) (link : Option DebugLinkValue) → debug_link_in main.image ≡ Good link → LeadsTo (λ a. linked a dirs main) dirs main (option_map (link_lead main.image) link)
unfolding linked
linked_leads dirs main link read = λ a. rw read refl

-- ---- the link to the alternative file

pub alternative_broken : (contents : Option Contents) (dirs : List Bytes) (debug : FileAt) (k : ErrorKind) → debug_altlink_in debug.image ≡ Broken k → Finds contents (λ a. alternative a dirs debug) (Refused k None)
unfolding alternative
alternative_broken contents dirs debug k broken = finds_any contents _ _ (λ a. rw broken refl)

pub alternative_leads : (dirs : List Bytes) (debug : FileAt) (link : Option DebugAltlinkValue) → debug_altlink_in debug.image ≡ Good link → LeadsTo (λ a. alternative a dirs debug) dirs debug (option_map altlink_lead link)
unfolding alternative
alternative_leads dirs debug link read = λ a. rw read refl

-- ---- the link to the supplementary file

pub supplementary_broken : (contents : Option Contents) (dirs : List Bytes) (debug : FileAt) (k : ErrorKind) → debug_sup_in debug.image ≡ Broken k → Finds contents (λ a. supplementary a dirs debug) (Refused k None)
unfolding supplementary
supplementary_broken contents dirs debug k broken = finds_any contents _ _ (λ a. rw broken refl)

pub supplementary_leads : (dirs : List Bytes) (debug : FileAt) (sup : Option DebugSupValue) → debug_sup_in debug.image ≡ Good sup → LeadsTo (λ a. supplementary a dirs debug) dirs debug (option_and_then sup_lead sup)
unfolding supplementary
supplementary_leads dirs debug sup read = λ a. rw read refl

-- ---- the check of a supplementary file

pub read_option : {X Y : Type 0} (p : Part (Option Y)) (view : X → Y) (o known : Option X) → o ≡ known → p ≡ Good (option_map view o) → p ≡ Good (option_map view known)
read_option p view o known is read = read ∙ ap (λ o. Good (option_map view o)) is

module _ (recorded : Bytes) (file : FileAt) where
  pub sup_broken : (k : ErrorKind) → debug_sup_in file.image ≡ Broken k → is_supplementary recorded file ≡ Refused k None
  sup_broken k read = rw read refl

  pub sup_missing : debug_sup_in file.image ≡ Good None → is_supplementary recorded file ≡ Refused InvalidData None
  sup_missing read = rw read refl

  pub sup_flag : (sup : DebugSupValue) (k : ErrorKind) (v : Option (Bytes × Bytes)) → debug_sup_in file.image ≡ Good (Some sup) → agreeing sup.is_supplementary (0 ∷ []) (1 ∷ []) ≡ Refused k v → is_supplementary recorded file ≡ Refused k v
  sup_flag sup k v read flag = rw (read, flag) refl

  pub sup_checksum : (sup : DebugSupValue) (same : Bool) (r : Opened (Unit {0})) → debug_sup_in file.image ≡ Good (Some sup) → agreeing sup.is_supplementary (0 ∷ []) (1 ∷ []) ≡ Found tt → same ≡ bytes_eq sup.checksum recorded
      → agreeing same sup.checksum recorded ≡ r → is_supplementary recorded file ≡ r
  sup_checksum sup same r read flag compared is = rw (read, flag, ← compared) is
