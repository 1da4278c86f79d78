-- Bytes are one value at most, a disk has one chain at most, and none where there is a fault.
use Rattle.std.proofs.Common.{◌≡◌, ◌<◌, ◌≤◌, ◌+◌, ℕ, zero, suc, List, [], ◌∷◌, length, get_or, Option, Some, None, refl, sym, ap, ◌∙◌}
use Rattle.std.proofs.Common.{subst, arith}
use Rattle.std.proofs.lemmas.List.{ext_get_or}
use Rattle.pt_sector.specs.Sectors.{Sectors, sector, Span}
use Rattle.pt_sector.specs.declared.address.Lba.{Lba}
use Rattle.pt_mbr.specs.Records.{RecordIs, HasFields, AreRecords, MbrBytes}
use Rattle.pt_mbr.specs.Chain.{EbrBytes, NextIs, IsBadRecord, IsEbrFault, boots, zeros, logical, link, lba, IsUpward, EbrAt, Walk, Chain}
use Rattle.pt_mbr.specs.Chain.{FaultAt, ChainFault, IsDevice}
use Rattle.pt_mbr.specs.declared.record.Record.{Record}
use Rattle.pt_mbr.specs.declared.mbr.Mbr.{Mbr}
use Rattle.pt_mbr.specs.declared.ebr.Ebr.{Ebr}
use Rattle.pt_mbr.specs.declared.ebr.EbrFault.{EbrFault}
use Rattle.pt_mbr.specs.declared.ebr.EbrFault.TheVariants as ebr
use Rattle.pt_mbr.specs.declared.chain.ChainError.{ChainError}
use Rattle.pt_mbr.specs.declared.chain.ChainError.TheVariants.{NoSignature, BadRecord, NotUpward, OutsideExtended, TooLong, Device}

pub fields_one : (r s : Record) (at : ℕ) (b : List ℕ) → HasFields r at b → HasFields s at b → r ≡ s
fields_one r s at b p q =
    let boot = sym p.boot ∙ q.boot in
    let start_chs = sym p.start_chs ∙ q.start_chs in
    let kind = sym p.kind ∙ q.kind in
    let end_chs = sym p.end_chs ∙ q.end_chs in
    let start = sym p.start ∙ q.start in
    let size = sym p.size ∙ q.size in
    λ i. record { boot = boot i; start_chs = start_chs i; kind = kind i; end_chs = end_chs i; start = start i; size = size i }

pub record_one : (o p : Option Record) (at : ℕ) (b : List ℕ) → RecordIs o at b → RecordIs p at b → o ≡ p
record_one None None at b p q = refl
record_one None (Some s) at b p q = absurd (p q.0)
record_one (Some r) None at b p q = absurd (q p.0)
record_one (Some r) (Some s) at b p q = ap (λ (x : Record). some x) (fields_one r s at b p.1 q.1) where
  some : Record → Option Record
  some x = Some x

pub records_one : (m n : List (Option Record)) (b : List ℕ) → AreRecords m b → AreRecords n b → m ≡ n
records_one m n b p q = ext_get_or None m n (p.four ∙ sym q.four) (λ k lt. at k (omega arith)) where
  at : (k : ℕ) → k < 4 → get_or m k None ≡ get_or n k None
  at zero lt = record_one _ _ 446 b p.first q.first
  at (suc zero) lt = record_one _ _ 462 b p.second q.second
  at (suc (suc zero)) lt = record_one _ _ 478 b p.third q.third
  at (suc (suc (suc zero))) lt = record_one _ _ 494 b p.fourth q.fourth
  at (suc (suc (suc (suc k)))) lt = absurd (omega arith)

pub mbr_one : (m n : Mbr) (b : List ℕ) → MbrBytes m b → MbrBytes n b → m ≡ n
mbr_one m n b p q =
    let same = records_one m.records n.records b p.records q.records in
    λ i. record { records = same i }

lba_ext : (y z : Lba) → y.0 ≡ z.0 → y ≡ z
lba_ext y z same = λ i. record { 0 = same i }

next_one : (first : ℕ) (o p : Option Lba) (b : List ℕ) → NextIs first o b → NextIs first p b → o ≡ p
next_one first None None b p q = refl
next_one first None (Some y) b p q = absurd (p q.0)
next_one first (Some x) None b p q = absurd (q p.0)
next_one first (Some x) (Some y) b p q = ap (λ (n : Lba). some n) (lba_ext x y (p.1 ∙ sym q.1)) where
  some : Lba → Option Lba
  some n = Some n

pub ebr_one : (first : ℕ) (at : Lba) (e f : Ebr) (b : List ℕ) → EbrBytes first at e b → EbrBytes first at f b → e ≡ f
ebr_one first at e f b p q =
    let place = p.place ∙ sym q.place in
    let logical = record_one e.logical f.logical 446 b p.logical q.logical in
    let next = next_one first e.next f.next b p.next q.next in
    λ i. record { at = place i; logical = logical i; next = next i }

pub bad_record : (first : ℕ) (at : Lba) (e : Ebr) (b : List ℕ) → IsBadRecord b → ¬ EbrBytes first at e b
bad_record first at e b (boots no_boots) bytes = no_boots bytes.boots
bad_record first at e b (zeros no_zeros) bytes = no_zeros bytes.zeros
bad_record first at e b (logical bad) bytes = bytes.logical_kind bad
bad_record first at e b (link bad) bytes = bytes.link_kind bad

pub ebr_none : (first : ℕ) (at : Lba) (e : Ebr) (fault : EbrFault) (b : List ℕ) → IsEbrFault fault b → ¬ EbrBytes first at e b
ebr_none first at e ebr.NoSignature b fault bytes = fault bytes.signature
ebr_none first at e ebr.BadRecord b fault bytes = bad_record first at e b fault.1 bytes

-- no walk goes on, or ends, past a fault
pub stopped : (d : Sectors) (x : Span) (k : ℕ) (at : Lba) (fault : ChainError) (e : Ebr) → k < 128 → FaultAt d x k at fault
    → EbrAt d x at e → IsUpward at e.next → IsDevice fault
stopped d x k at (OutsideExtended y) e few fault here up = absurd (fault.1 here.inside)
stopped d x k at TooLong e few fault here up = absurd (omega arith)
stopped d x k at (NoSignature y) e few fault here up = absurd (fault.3 here.bytes.signature)
stopped d x k at (BadRecord y) e few fault here up = absurd (bad_record x.first at e (sector d at.0) fault.3.1 here.bytes)
stopped d x k at (NotUpward y) e few fault here up =
    let same : e ≡ fault.2 = ebr_one x.first at e fault.2 (sector d at.0) here.bytes fault.3.bytes in
    absurd (fault.4 (subst (λ (f : Ebr). IsUpward at f.next) same up))
stopped d x k at (Device y) e few fault here up = tt

-- k extended boot records stand before `from`
faulty : (d : Sectors) (x : Span) (k : ℕ) (from : Option Lba) (before list : List Ebr) (at : Lba) (fault : ChainError)
    → k + length list ≤ 128
    → Walk d x from before (Some at) → FaultAt d x (k + length before) at fault → Walk d x from list None → IsDevice fault
faulty d x k None [] [] at fault few reached here whole = absurd cc
faulty d x k (Some y) before [] at fault few reached here whole = absurd cc
faulty d x k None (f ∷ before) list at fault few reached here whole = absurd reached
faulty d x k None [] (e ∷ list) at fault few reached here whole = absurd whole
faulty d x k (Some y) [] (e ∷ list) at fault few reached here whole =
    let same : y ≡ at = cc in
    stopped d x (k + 0) at fault e (omega arith) here (subst (λ (z : Lba). EbrAt d x z e) same whole.0)
    (subst (λ (z : Lba). IsUpward z e.next) same whole.1)
faulty d x k (Some y) (f ∷ before) (e ∷ list) at fault few reached here whole =
    let same : e ≡ f = ebr_one x.first y e f (sector d y.0) whole.0.bytes reached.0.bytes in
    let count : k + length (f ∷ before) ≡ (k + 1) + length before = omega arith in
    faulty d x (k + 1) f.next before list at fault (omega arith) reached.2 (subst (λ (n : ℕ). FaultAt d x n at fault) count here)
    (subst (λ (g : Ebr). Walk d x g.next list None) same whole.2)

pub no_chain : (d : Sectors) (x : Span) (e : ChainError) (list : List Ebr) → ChainFault d x e → Chain d x list → IsDevice e
no_chain d x e list fault chain =
    faulty d x 0 (Some (lba x.first)) fault.before list fault.at e (omega (arith, chain.few)) fault.reached
    (subst (λ (n : ℕ). FaultAt d x n fault.at e) (omega arith) fault.here) chain.whole

walk_one : (d : Sectors) (x : Span) (from : Option Lba) (list other : List Ebr) → Walk d x from list None → Walk d x from other None
    → list ≡ other
walk_one d x from [] [] p q = refl
walk_one d x None [] (f ∷ other) p q = absurd q
walk_one d x None (e ∷ list) other p q = absurd p
walk_one d x (Some y) [] other p q = absurd cc
walk_one d x (Some y) (e ∷ list) [] p q = absurd cc
walk_one d x (Some y) (e ∷ list) (f ∷ other) p q =
    let same : e ≡ f = ebr_one x.first y e f (sector d y.0) p.0.bytes q.0.bytes in
    let rest = walk_one d x f.next list other (subst (λ (g : Ebr). Walk d x g.next list None) same p.2) q.2 in
    λ i. same i ∷ rest i

pub chain_one : (d : Sectors) (x : Span) (list other : List Ebr) → Chain d x list → Chain d x other → list ≡ other
chain_one d x list other p q = walk_one d x (Some (lba x.first)) list other p.whole q.whole
