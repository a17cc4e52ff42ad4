-- The steps of opening, one after the other.
use Rattle.std.proofs.Common.{◌≡◌, List, Option, Some, None, refl, subst}
use Rattle.blz_error.specs.Texts.{Bytes}
use Rattle.blz_error.specs.declared.kind.ErrorKind.{ErrorKind}
use Rattle.blz_links.specs.Contents.{Contents}
use Rattle.blz_bundle.specs.Alternative.{alternative}
use Rattle.blz_bundle.specs.FileAnswers.{Answers, StepAnswers, Finds, StepsFind, told_steps}
use Rattle.blz_bundle.specs.Following.{read_at}
use Rattle.blz_bundle.specs.Linked.{linked}
use Rattle.blz_bundle.specs.Opened.{Opened, Found, Refused}
use Rattle.blz_bundle.specs.OpenFiles.{FileAt, images_in, debug_of}
use Rattle.blz_bundle.specs.Opening.{opened_by, shared, OpensTo}
use Rattle.blz_bundle.specs.Packages.{package_of}
use Rattle.blz_bundle.specs.Supplementary.{supplementary}
use Rattle.blz_bundle.proofs.Findings.{found_is}

-- the same answers in each step
every : Answers → StepAnswers
every a = record { main = a; linked = a; package_file = a; alternative = a; supplementary = a }

-- ---- the file that the debug file shares with others

-- what the first step ends with is what both end with
pub shares : (contents : Option Contents) (dirs : List Bytes) (debug : FileAt) (first both : Opened (Option FileAt)) → ((a : StepAnswers) → alternative a.alternative dirs debug ≡ first → shared a dirs debug ≡ both)
    → Finds contents (λ a. alternative a dirs debug) first → StepsFind contents (λ a. shared a dirs debug) both
unfolding every
shares None dirs debug first both on found = (every found.0, on (every found.0) found.1)
shares (Some c) dirs debug first both on found = on (told_steps c) found

pub shared_alternative : (a : StepAnswers) (dirs : List Bytes) (debug file : FileAt) → alternative a.alternative dirs debug ≡ Found (Some file) → shared a dirs debug ≡ Found (Some file)
unfolding shared
shared_alternative a dirs debug file is = rw is refl

pub shared_refused : (a : StepAnswers) (dirs : List Bytes) (debug : FileAt) (k : ErrorKind) (v : Option (Bytes × Bytes)) → alternative a.alternative dirs debug ≡ Refused k v → shared a dirs debug ≡ Refused k v
unfolding shared
shared_refused a dirs debug k v is = rw is refl

shared_none : (a : StepAnswers) (dirs : List Bytes) (debug : FileAt) (r : Opened (Option FileAt)) → alternative a.alternative dirs debug ≡ Found None → supplementary a.supplementary dirs debug ≡ r → shared a dirs debug ≡ r
unfolding shared
shared_none a dirs debug r is then = rw is then

-- where there is no alternative file, the supplementary file
pub shares_supplementary : (contents : Option Contents) (dirs : List Bytes) (debug : FileAt) (r : Opened (Option FileAt)) → Finds contents (λ a. alternative a dirs debug) (Found None) → Finds contents (λ a. supplementary a dirs debug) r → StepsFind contents (λ a. shared a dirs debug) r
shares_supplementary None dirs debug r first then =
    let a : StepAnswers = record { main = first.0; linked = first.0; package_file = first.0; alternative = first.0; supplementary = then.0 } in
    (a, shared_none a dirs debug r first.1 then.1)
shares_supplementary (Some c) dirs debug r first then = shared_none (told_steps c) dirs debug r first then

-- of the same debug file
pub shares_of : (contents : Option Contents) (dirs : List Bytes) (debug file : FileAt) (r : Opened (Option FileAt)) → debug ≡ file → StepsFind contents (λ a. shared a dirs debug) r → StepsFind contents (λ a. shared a dirs file) r
shares_of contents dirs debug file r same is = subst (λ (file : FileAt). StepsFind contents (λ a. shared a dirs file) r) same is

-- ---- all of them

-- at the same path
pub reads_at : (contents : Option Contents) (asked path : Bytes) (r : Opened FileAt) → asked ≡ path → Finds contents (λ a. read_at a asked) r → Finds contents (λ a. read_at a path) r
reads_at contents asked path r same is = subst (λ (path : Bytes). Finds contents (λ a. read_at a path) r) same is

by_steps : (a : StepAnswers) (path : Bytes) (dirs : List Bytes) (main : FileAt) (linkee packed sup : Option FileAt) → read_at a.main path ≡ Found main → linked a.linked dirs main ≡ Found linkee → package_of a.package_file main ≡ packed → shared a dirs (debug_of main linkee) ≡ Found sup
    → opened_by a path dirs ≡ Found (images_in (record { main = main; linkee = linkee; supplementary = sup; package_file = packed }))
unfolding opened_by
by_steps a path dirs main linkee packed sup read link pack share = rw (read, link, pack, share) refl

pub opens : (contents : Option Contents) (path : Bytes) (dirs : List Bytes) (main : FileAt) (linkee packed sup : Option FileAt) → Finds contents (λ a. read_at a path) (Found main) → Finds contents (λ a. linked a dirs main) (Found linkee) → Finds contents (λ a. Found (package_of a main)) (Found packed)
    → StepsFind contents (λ a. shared a dirs (debug_of main linkee)) (Found sup) → OpensTo contents path dirs (Found (images_in (record { main = main; linkee = linkee; supplementary = sup; package_file = packed })))
unfolding shared
opens None path dirs main linkee packed sup read link pack share =
    let a : StepAnswers = record { main = read.0; linked = link.0; package_file = pack.0; alternative = share.0.alternative; supplementary = share.0.supplementary } in
    (a, by_steps a path dirs main linkee packed sup read.1 link.1 (found_is pack.1) share.1)
opens (Some c) path dirs main linkee packed sup read link pack share = by_steps (told_steps c) path dirs main linkee packed sup read link (found_is pack) share

unread : (a : StepAnswers) (path : Bytes) (dirs : List Bytes) (k : ErrorKind) (v : Option (Bytes × Bytes)) → read_at a.main path ≡ Refused k v → opened_by a path dirs ≡ Refused k v
unfolding opened_by
unread a path dirs k v read = rw read refl

pub opens_unread : (contents : Option Contents) (path : Bytes) (dirs : List Bytes) (k : ErrorKind) (v : Option (Bytes × Bytes)) → Finds contents (λ a. read_at a path) (Refused k v) → OpensTo contents path dirs (Refused k v)
unfolding every
opens_unread None path dirs k v read = (every read.0, unread (every read.0) path dirs k v read.1)
opens_unread (Some c) path dirs k v read = unread (told_steps c) path dirs k v read

unlinked : (a : StepAnswers) (path : Bytes) (dirs : List Bytes) (main : FileAt) (k : ErrorKind) (v : Option (Bytes × Bytes)) → read_at a.main path ≡ Found main → linked a.linked dirs main ≡ Refused k v → opened_by a path dirs ≡ Refused k v
unfolding opened_by
unlinked a path dirs main k v read link = rw (read, link) refl

pub opens_unlinked : (contents : Option Contents) (path : Bytes) (dirs : List Bytes) (main : FileAt) (k : ErrorKind) (v : Option (Bytes × Bytes)) → Finds contents (λ a. read_at a path) (Found main) → Finds contents (λ a. linked a dirs main) (Refused k v) → OpensTo contents path dirs (Refused k v)
opens_unlinked None path dirs main k v read link =
    let a : StepAnswers = record { main = read.0; linked = link.0; package_file = read.0; alternative = read.0; supplementary = read.0 } in
    (a, unlinked a path dirs main k v read.1 link.1)
opens_unlinked (Some c) path dirs main k v read link = unlinked (told_steps c) path dirs main k v read link

unshared : (a : StepAnswers) (path : Bytes) (dirs : List Bytes) (main : FileAt) (linkee : Option FileAt) (k : ErrorKind) (v : Option (Bytes × Bytes)) → read_at a.main path ≡ Found main → linked a.linked dirs main ≡ Found linkee → shared a dirs (debug_of main linkee) ≡ Refused k v → opened_by a path dirs ≡ Refused k v
unfolding opened_by
unshared a path dirs main linkee k v read link share = rw (read, link, share) refl

pub opens_unshared : (contents : Option Contents) (path : Bytes) (dirs : List Bytes) (main : FileAt) (linkee : Option FileAt) (k : ErrorKind) (v : Option (Bytes × Bytes)) → Finds contents (λ a. read_at a path) (Found main) → Finds contents (λ a. linked a dirs main) (Found linkee)
    → StepsFind contents (λ a. shared a dirs (debug_of main linkee)) (Refused k v) → OpensTo contents path dirs (Refused k v)
unfolding shared
opens_unshared None path dirs main linkee k v read link share =
    let a : StepAnswers = record { main = read.0; linked = link.0; package_file = read.0; alternative = share.0.alternative; supplementary = share.0.supplementary } in
    (a, unshared a path dirs main linkee k v read.1 link.1 share.1)
opens_unshared (Some c) path dirs main linkee k v read link share = unshared (told_steps c) path dirs main linkee k v read link share
