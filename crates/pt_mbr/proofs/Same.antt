-- Who agrees with a disk on what a chain reads has the same chain.
use Rattle.std.proofs.Common.{◌≡◌, ◌<◌, ◌≤◌, ℕ, zero, suc, List, [], ◌∷◌, length, Option, Some, None, refl, sym, subst, arith}
use Rattle.pt_sector.specs.Sectors.{Sectors, sector, Span, Agrees}
use Rattle.pt_sector.specs.declared.address.Lba.{Lba}
use Rattle.pt_mbr.specs.Chain.{EbrBytes, IsEbrFault, lba, IsInside, IsUpward, EbrAt, Walk, Chain, FaultAt, ChainFault, ReadsFrom}
use Rattle.pt_mbr.specs.Chain.{ChainReads, SameChains}
use Rattle.pt_mbr.specs.declared.ebr.Ebr.{Ebr}
use Rattle.pt_mbr.specs.declared.ebr.EbrFault.TheVariants as ebr
use Rattle.pt_mbr.specs.declared.chain.ChainError.{ChainError}
use Rattle.pt_mbr.specs.declared.chain.ChainError.TheVariants.{NoSignature, BadRecord, NotUpward, OutsideExtended, TooLong, Device}

pub inside_same : (x : Span) (n m : ℕ) (at : Lba) → n ≡ m → IsInside x m at → IsInside x n at
inside_same x n m at same inside = subst (λ (k : ℕ). IsInside x k at) (sym same) inside

ebr_same : (c d : Sectors) (x : Span) (at : Lba) (e : Ebr) → length c ≡ length d → sector c at.0 ≡ sector d at.0 → EbrAt d x at e
    → EbrAt c x at e
ebr_same c d x at e count same here = record {
  inside = inside_same x (length c) (length d) at count here.inside;
  bytes = subst (λ (b : List ℕ). EbrBytes x.first at e b) (sym same) here.bytes;
}

-- the first place is read, and so is what the rest reads
pub first_read : (d : Sectors) (x : Span) (k : ℕ) (at : Lba) → 0 < k → IsInside x (length d) at → ReadsFrom d x k (Some at) at.0
first_read d x k at few inside = record { before = []; few = few; reached = refl; inside = inside }

pub rest_read : (d : Sectors) (x : Span) (k : ℕ) (at : Lba) (e : Ebr) (s : ℕ) → EbrAt d x at e → IsUpward at e.next
    → ReadsFrom d x k e.next s → ReadsFrom d x (suc k) (Some at) s
rest_read d x k at e s here up reads =
    record { before = e ∷ reads.before; few = omega (arith, reads.few); reached = (here, up, reads.reached); inside = reads.inside }

-- a walk of d is one of c, and one of c is one of d, where they agree on d's reads
walk_there : (c d : Sectors) (x : Span) (k : ℕ) (from : Option Lba) (es : List Ebr) (to : Option Lba) → length c ≡ length d
    → ((s : ℕ) → ReadsFrom d x k from s → sector c s ≡ sector d s) → length es ≤ k → Walk d x from es to → Walk c x from es to
walk_there c d x k from [] to count same few walk = walk
walk_there c d x k None (e ∷ es) to count same few walk = walk
walk_there c d x zero (Some at) (e ∷ es) to count same few walk = absurd (omega arith)
walk_there c d x (suc k) (Some at) (e ∷ es) to count same few walk = (
  ebr_same c d x at e count (same at.0 (first_read d x (suc k) at (omega arith) walk.0.inside)) walk.0,
  walk.1,
  walk_there c d x k e.next es to count (λ s reads. same s (rest_read d x k at e s walk.0 walk.1 reads)) (omega arith) walk.2,
)

walk_back : (c d : Sectors) (x : Span) (k : ℕ) (from : Option Lba) (es : List Ebr) (to : Option Lba) → length c ≡ length d
    → ((s : ℕ) → ReadsFrom d x k from s → sector c s ≡ sector d s) → length es ≤ k → Walk c x from es to → Walk d x from es to
walk_back c d x k from [] to count same few walk = walk
walk_back c d x k None (e ∷ es) to count same few walk = walk
walk_back c d x zero (Some at) (e ∷ es) to count same few walk = absurd (omega arith)
walk_back c d x (suc k) (Some at) (e ∷ es) to count same few walk =
    let inside = inside_same x (length d) (length c) at (sym count) walk.0.inside in
    let here = ebr_same d c x at e (sym count) (sym (same at.0 (first_read d x (suc k) at (omega arith) inside))) walk.0 in
    (here, walk.1, walk_back c d x k e.next es to count (λ s reads. same s (rest_read d x k at e s here walk.1 reads)) (omega arith) walk.2)

-- disks with the same walks
record SameWalks (x : Span) (c d : Sectors) : Type 0 where
  count : length c ≡ length d
  walk : (es : List Ebr) (to : Option Lba) → length es ≤ 128 → Walk d x (Some (lba x.first)) es to → Walk c x (Some (lba x.first)) es to
  read : (s : ℕ) → ChainReads d x s → sector c s ≡ sector d s

fault_same : (c d : Sectors) (x : Span) (k : ℕ) (at : Lba) (e : ChainError) → length c ≡ length d
    → (k < 128 → IsInside x (length d) at → sector c at.0 ≡ sector d at.0) → FaultAt d x k at e → FaultAt c x k at e
fault_same c d x k at (OutsideExtended y) count same fault =
    (fault.0, λ inside. fault.1 (inside_same x (length d) (length c) at (sym count) inside))
fault_same c d x k at TooLong count same fault = (inside_same x (length c) (length d) at count fault.0, fault.1)
fault_same c d x k at (NoSignature y) count same fault = (
  fault.0,
  inside_same x (length c) (length d) at count fault.1,
  fault.2,
  subst (λ (b : List ℕ). IsEbrFault ebr.NoSignature b)
      (sym (same fault.2 fault.1)) fault.3,
)
fault_same c d x k at (BadRecord y) count same fault = (
  fault.0,
  inside_same x (length c) (length d) at count fault.1,
  fault.2,
  subst (λ (b : List ℕ). IsEbrFault ebr.BadRecord b)
      (sym (same fault.2 fault.1)) fault.3,
)
fault_same c d x k at (NotUpward y) count same fault =
    (fault.0, fault.1, fault.2, ebr_same c d x at fault.2 count (same fault.1 fault.3.inside) fault.3, fault.4)
fault_same c d x k at (Device y) count same fault = (fault.0, inside_same x (length c) (length d) at count fault.1, fault.2)

chain_same : (c d : Sectors) (x : Span) (list : List Ebr) → SameWalks x c d → Chain d x list → Chain c x list
chain_same c d x list same chain = record { few = chain.few; whole = same.walk list None chain.few chain.whole }

first_fault_same : (c d : Sectors) (x : Span) (e : ChainError) → SameWalks x c d → ChainFault d x e → ChainFault c x e
first_fault_same c d x e same fault = record {
  before = fault.before;
  at = fault.at;
  few = fault.few;
  reached = same.walk fault.before (Some fault.at) fault.few fault.reached;
  here = fault_same c d x (length fault.before) fault.at e same.count
      (λ few inside. same.read fault.at.0 (record { before = fault.before; few = few; reached = fault.reached; inside = inside }))
      fault.here;
}

reads_same : (c d : Sectors) (x : Span) (s : ℕ) → SameWalks x c d → ChainReads d x s → ChainReads c x s
reads_same c d x s same reads = record {
  before = reads.before;
  few = reads.few;
  reached = same.walk reads.before (Some (lba s)) (omega (arith, reads.few)) reads.reached;
  inside = inside_same x (length c) (length d) (lba s) same.count reads.inside;
}

pub same_chains : (x : Span) (c d : Sectors) → Agrees (ChainReads d x) c d → SameChains x c d
same_chains x c d agrees =
    let there : SameWalks x c d = record {
      count = agrees.count;
      walk = λ es to few walk. walk_there c d x 128 (Some (lba x.first)) es to agrees.count agrees.each few walk;
      read = agrees.each;
    } in
    let back_walk : (es : List Ebr) (to : Option Lba) → length es ≤ 128 → Walk c x (Some (lba x.first)) es to
    → Walk d x (Some (lba x.first)) es to =
    λ es to few walk. walk_back c d x 128 (Some (lba x.first)) es to agrees.count agrees.each few walk in
    let back : SameWalks x d c = record {
      count = sym agrees.count;
      walk = back_walk;
      read = λ s reads. sym (agrees.each s (record {
        before = reads.before;
        few = reads.few;
        reached = back_walk reads.before (Some (lba s)) (omega (arith, reads.few)) reads.reached;
        inside = inside_same x (length d) (length c) (lba s) (sym agrees.count) reads.inside;
      }));
    } in
    record {
      chain = λ list. (chain_same d c x list back, chain_same c d x list there);
      fault = λ e. (first_fault_same d c x e back, first_fault_same c d x e there);
      reads = λ s. (reads_same d c x s back, reads_same c d x s there);
    }
