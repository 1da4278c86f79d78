-- A disk that denotes nothing does so for one reason, and one that has a reason denotes nothing.
use Rattle.std.proofs.Common.{◌≡◌, ◌≤◌, ℕ, List, [], ◌∷◌, length, Option, None, refl, sym, ap, ◌∙◌, subst, arith, inl, inr}
use Rattle.pt_sector.specs.Sectors.{Sectors}
use Rattle.pt_mbr.specs.declared.record.Record.{Record}
use Rattle.pt_mbr.specs.declared.ebr.Ebr.{Ebr}
use Rattle.pt_mbr.specs.declared.chain.ChainError.{ChainError}
use Rattle.pt_mbr.specs.Chain.{Chain, ChainFault}
use Rattle.pt_mbr.proofs.Terms.{fault_is_one, fault_has_no_chain}
use Rattle.pt_gpt.proofs.Terms.{no_copy_lem}
use Rattle.pt_gpt.proofs.Faults.{copy_fault_is_one_lem}
use Rattle.pt_gpt.specs.declared.table.Side.TheVariants.{Primary, Backup}
use Rattle.pt_mbr.specs.Records.{extended_of, extent_of}
use Rattle.pt_recover.specs.Denotes.{IsMbr, HasChain, BodyIs, Denotes, IsReason}
use Rattle.pt_recover.proofs.One.{mbr_one}
use Rattle.pt_members.specs.declared.layout.Body.{Body}
use Rattle.pt_members.specs.declared.layout.Body.TheVariants.{Mbr, Gpt}
use Rattle.pt_recover.specs.declared.error.NoTable.{NoTable}
use Rattle.pt_recover.specs.declared.error.NoTable.TheVariants.{NoCopy, Chain as BadChain, TwoExtended, TooSmall, Device, Memory}

extendeds_one : (d : Sectors) (m n : List (Option Record)) → IsMbr d m → IsMbr d n → extended_of m ≡ extended_of n
extendeds_one d m n p q = ap extended_of (mbr_one d m n p q)

chain_reason_one : (b : ℕ) (d : Sectors) (e f : ChainError) → IsReason b d (BadChain e) → IsReason b d (BadChain f) → e ≡ f
chain_reason_one b d e f (m, r, mbr, lone, fault, disk) (n, s, other, alone, also, content) =
    let both : r ∷ [] ≡ s ∷ [] = sym lone ∙ extendeds_one d m n mbr other ∙ alone in
    let same : r ≡ s = cc in
    elim (fault_is_one d (extent_of s) e f (subst (λ (x : Record). ChainFault d (extent_of x) e) same fault) also) as (λ _. e ≡ f) [
      | inl one ↦ one
      | inr (inl device) ↦ absurd (disk device)
      | inr (inr device) ↦ absurd (content device)
    ]

chain_or_two : (b : ℕ) (d : Sectors) (e : ChainError) → IsReason b d (BadChain e) → IsReason b d TwoExtended → ⊥
chain_or_two b d e (m, r, mbr, lone, fault, disk) (n, other, two) =
    let long : 2 ≤ length (r ∷ []) = subst (λ (rs : List Record). 2 ≤ length rs) (extendeds_one d n m other mbr ∙ lone) two in
    absurd (omega (arith, long))

copies_reason_one : (b : ℕ) (d : Sectors) (e f g h : _) → IsReason b d (NoCopy e f) → IsReason b d (NoCopy g h) → NoCopy e f ≡ NoCopy g h
copies_reason_one b d e f g h (plain, room, x, y) (bare, space, z, w) =
    let first = copy_fault_is_one_lem b d Primary e g x z in
    let second = copy_fault_is_one_lem b d Backup f h y w in
    λ i. NoCopy (first i) (second i)

pub reason_one : (b : ℕ) (d : Sectors) (e f : NoTable) → IsReason b d e → IsReason b d f → e ≡ f
reason_one b d (NoCopy e f) (NoCopy g h) p q = copies_reason_one b d e f g h p q
reason_one b d (NoCopy e f) (BadChain g) p (m, r, mbr, lone, fault, disk) = absurd (p.0 mbr.0)
reason_one b d (NoCopy e f) TwoExtended p (m, mbr, two) = absurd (p.0 mbr.0)
reason_one b d (NoCopy e f) TooSmall p q = absurd (q.1 p.1)
reason_one b d (NoCopy e f) (Device at) p q = absurd q
reason_one b d (NoCopy e f) Memory p q = absurd q
reason_one b d (BadChain e) (NoCopy g h) (m, r, mbr, lone, fault, disk) q = absurd (q.0 mbr.0)
reason_one b d (BadChain e) (BadChain f) p q = ap BadChain (chain_reason_one b d e f p q)
reason_one b d (BadChain e) TwoExtended p q = absurd (chain_or_two b d e p q)
reason_one b d (BadChain e) TooSmall (m, r, mbr, lone, fault, disk) q = absurd (q.0 mbr.0)
reason_one b d (BadChain e) (Device at) p q = absurd q
reason_one b d (BadChain e) Memory p q = absurd q
reason_one b d TwoExtended (NoCopy g h) (m, mbr, two) q = absurd (q.0 mbr.0)
reason_one b d TwoExtended (BadChain f) p q = absurd (chain_or_two b d f q p)
reason_one b d TwoExtended TwoExtended p q = refl
reason_one b d TwoExtended TooSmall (m, mbr, two) q = absurd (q.0 mbr.0)
reason_one b d TwoExtended (Device at) p q = absurd q
reason_one b d TwoExtended Memory p q = absurd q
reason_one b d TooSmall (NoCopy g h) p q = absurd (p.1 q.1)
reason_one b d TooSmall (BadChain f) p (m, r, mbr, lone, fault, disk) = absurd (p.0 mbr.0)
reason_one b d TooSmall TwoExtended p (m, mbr, two) = absurd (p.0 mbr.0)
reason_one b d TooSmall TooSmall p q = refl
reason_one b d TooSmall (Device at) p q = absurd q
reason_one b d TooSmall Memory p q = absurd q
reason_one b d (Device at) f p q = absurd p
reason_one b d Memory f p q = absurd p

copies_nothing : (b : ℕ) (d : Sectors) (e f : _) → IsReason b d (NoCopy e f) → (y : Body) → ¬ BodyIs b d y
copies_nothing b d e f p (Mbr rs chain) is = p.0 is.0.0
copies_nothing b d e f (bare, space, x, y) (Gpt t) (plain, room, inl copy) = no_copy_lem b d Primary e x (t, copy)
copies_nothing b d e f (bare, space, x, y) (Gpt t) (plain, room, inr copy) = no_copy_lem b d Backup f y (t, copy.1)

chain_nothing : (b : ℕ) (d : Sectors) (e : ChainError) → IsReason b d (BadChain e) → (y : Body) → ¬ BodyIs b d y
chain_nothing b d e (m, r, mbr, lone, fault, disk) (Mbr rs chain) is =
    let alone : extended_of rs ≡ r ∷ [] = extendeds_one d rs m is.0 mbr ∙ lone in
    let stands : Chain d (extent_of r) chain = subst (λ (xs : List Record). HasChain d xs chain) alone is.1 in
    disk (fault_has_no_chain d (extent_of r) e chain fault stands)
chain_nothing b d e (m, r, mbr, lone, fault, disk) (Gpt t) is = is.0 mbr.0

no_chain_of_two : (d : Sectors) (rs : List Record) (chain : List Ebr) → 2 ≤ length rs → HasChain d rs chain → ⊥
no_chain_of_two d [] chain two is = absurd (omega (arith, two))
no_chain_of_two d (r ∷ []) chain two is = absurd (omega (arith, two))
no_chain_of_two d (r ∷ s ∷ rs) chain two is = is

two_nothing : (b : ℕ) (d : Sectors) → IsReason b d TwoExtended → (y : Body) → ¬ BodyIs b d y
two_nothing b d (m, mbr, two) (Mbr rs chain) is =
    let long : 2 ≤ length (extended_of rs) = subst (λ (xs : List Record). 2 ≤ length xs) (extendeds_one d m rs mbr is.0) two in
    no_chain_of_two d (extended_of rs) chain long is.1
two_nothing b d (m, mbr, two) (Gpt t) is = is.0 mbr.0

pub reason_nothing : (b : ℕ) (d : Sectors) (e : NoTable) → IsReason b d e → Denotes b d None
reason_nothing b d (NoCopy e f) p = copies_nothing b d e f p
reason_nothing b d (BadChain e) p = chain_nothing b d e p
reason_nothing b d TwoExtended p = two_nothing b d p
reason_nothing b d TooSmall p = small where
  small : (y : Body) → ¬ BodyIs b d y
  small (Mbr rs chain) is = p.0 is.0.0
  small (Gpt t) is = p.1 is.1
reason_nothing b d (Device at) p = absurd p
reason_nothing b d Memory p = absurd p
