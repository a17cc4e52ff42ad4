-- One reply after another.
use Rattle.std.proofs.Common.{◌≡◌, ℕ, ◌+◌, ◌<◌, ◌≤◌, Bool, List, [], ◌∷◌, ◌++◌, length, take, get_or, sym, subst}
use Rattle.std.proofs.lemmas.List.{take_all, take_more}
use Rattle.blz_resolver.specs.Commands.{IsReply, AreReplies}
use Rattle.blz_bundle.specs.Images.{ImageSet}
use Rattle.blz_resolver.specs.declared.call_list.Command.{Command}
use Rattle.blz_resolver.specs.declared.call_list.Reply.{Reply}

replies_end : (images : ImageSet) (has : Bool) (cs : List Command) (rs : List Reply) (c : Command) (r : Reply) → AreReplies images has cs rs → IsReply images has c r → AreReplies images has (cs ++ c ∷ []) (rs ++ r ∷ [])
replies_end images has [] [] c r h one = (one, tt)
replies_end images has [] (x ∷ rs) c r h one = absurd h
replies_end images has (d ∷ cs) [] c r h one = absurd h
replies_end images has (d ∷ cs) (x ∷ rs) c r h one = (h.0, replies_end images has cs rs c r h.1 one)

-- a reply by a resolver of the same bundle
reply_as : (a b : ImageSet) (p q : Bool) (c : Command) (r : Reply) → a ≡ b → p ≡ q → IsReply a p c r → IsReply b q c r
reply_as a b p q c r same is h =
    let P : ImageSet → Type 0 = λ x. IsReply x p c r in
    let Q : Bool → Type 0 = λ y. IsReply b y c r in
    subst Q is (subst P same h)

pub reply_more : (a b : ImageSet) (p q : Bool) (cs : List Command) (i : ℕ) (c : Command) (rs : List Reply) (r : Reply) → i < length cs → c ≡ get_or cs i c → a ≡ b → p ≡ q → AreReplies b q (take i cs) rs → IsReply a p c r → AreReplies b q (take (i + 1) cs) (rs ++ r ∷ [])
reply_more a b p q cs i c rs r lt here same is h one =
    let P : List Command → Type 0 = λ xs. AreReplies b q xs (rs ++ r ∷ []) in
    let Q : Command → Type 0 = λ x. IsReply b q x r in
    subst P (sym (take_more cs i c lt)) (replies_end b q (take i cs) rs (get_or cs i c) r h (subst Q here (reply_as a b p q c r same is one)))

pub replies_all : (images : ImageSet) (has : Bool) (cs : List Command) (i : ℕ) (rs : List Reply) → length cs ≤ i → AreReplies images has (take i cs) rs → AreReplies images has cs rs
replies_all images has cs i rs past h =
    let P : List Command → Type 0 = λ xs. AreReplies images has xs rs in
    subst P (take_all i cs past) h
