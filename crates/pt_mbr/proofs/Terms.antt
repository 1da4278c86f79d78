-- The laws of this crate as terms, for definitions and proofs above. Their statements are those of the public functions in src/laws.rt.
use Rattle.std.specs.Prelude.{◌≡◌, ◌<◌, ◌≤◌, ◌+◌, ◌↔◌, ◌⊎◌, ℕ, List, length, slice_index, Option, Some, None}
use Rattle.std.proofs.Common.{inl, refl}
use Rattle.pt_sector.specs.Sectors.{Sectors, Span, Agrees, number_at}
use Rattle.pt_sector.specs.declared.address.Lba.{Lba}
use Rattle.pt_mbr.specs.Records.{RecordIs, AreRecords, MbrBytes, BearsProtective, IsProtective}
use Rattle.pt_mbr.specs.Chain.{EbrBytes, NextIs, IsEbrFault, Chain, ChainFault, ChainReads, IsDevice, StandsAt, IsAtFault, SameChains}
use Rattle.pt_mbr.specs.declared.record.Record.{Record}
use Rattle.pt_mbr.specs.declared.mbr.Mbr.{Mbr}
use Rattle.pt_mbr.specs.declared.ebr.Ebr.{Ebr}
use Rattle.pt_mbr.specs.declared.ebr.EbrFault.{EbrFault}
use Rattle.pt_mbr.specs.declared.chain.ChainError.{ChainError}
use Rattle.pt_mbr.proofs.One as one
use Rattle.pt_mbr.proofs.Kept as kept
use Rattle.pt_mbr.proofs.Fault as faults
use Rattle.pt_mbr.proofs.Same as same
use Rattle.pt_mbr.proofs.ReadingLemmas as reading

-- bytes are one record, one master boot record, one extended boot record at most
pub record_is_one : (o p : Option Record) (at : ℕ) (b : List ℕ) → RecordIs o at b → RecordIs p at b → o ≡ p
record_is_one = one.record_one

pub records_are_one : (m n : List (Option Record)) (b : List ℕ) → AreRecords m b → AreRecords n b → m ≡ n
records_are_one = one.records_one

pub mbr_is_one : (m n : Mbr) (b : List ℕ) → MbrBytes m b → MbrBytes n b → m ≡ n
mbr_is_one = one.mbr_one

pub ebr_is_one : (first : ℕ) (at : Lba) (e f : Ebr) (b : List ℕ) → EbrBytes first at e b → EbrBytes first at f b → e ≡ f
ebr_is_one = one.ebr_one

pub fault_has_no_ebr : (first : ℕ) (at : Lba) (e : Ebr) (fault : EbrFault) (b : List ℕ) → IsEbrFault fault b → ¬ EbrBytes first at e b
fault_has_no_ebr = one.ebr_none

-- a record depends on its sixteen bytes alone
pub record_is_its_bytes : (o : Option Record) (at : ℕ) (b c : List ℕ) → at + 16 ≤ length b → length c ≡ length b
    → ((i : ℕ) → at ≤ i → i < at + 16 → slice_index c i ≡ slice_index b i) → RecordIs o at b → RecordIs o at c
record_is_its_bytes = kept.record_kept

-- a sector that protects its disk bears a protective record
pub protective_is_borne : (n : ℕ) (b : List ℕ) → IsProtective n b → BearsProtective b
unfolding BearsProtective
protective_is_borne n b is = inl is.first.kind

-- an extended partition has one chain at most, or one fault but for the device's own
pub chain_is_one : (d : Sectors) (x : Span) (list other : List Ebr) → Chain d x list → Chain d x other → list ≡ other
chain_is_one = one.chain_one

pub fault_has_no_chain : (d : Sectors) (x : Span) (e : ChainError) (list : List Ebr) → ChainFault d x e → Chain d x list → IsDevice e
fault_has_no_chain = one.no_chain

pub fault_is_one : (d : Sectors) (x : Span) (e f : ChainError) → ChainFault d x e → ChainFault d x f → (e ≡ f) ⊎ IsDevice e ⊎ IsDevice f
fault_is_one = faults.fault_one

-- who agrees with a disk on the sectors that decide its chain has the same chain, or the same fault
pub chain_reads_decide : (x : Span) (c d : Sectors) → Agrees (ChainReads d x) c d → SameChains x c d
chain_reads_decide = same.same_chains

-- those sectors
pub chain_reads_are : (d : Sectors) (x : Span) (list : List Ebr) → Chain d x list → (s : ℕ) → ChainReads d x s ↔ StandsAt s list
chain_reads_are = reading.of_list

pub fault_reads_are : (d : Sectors) (x : Span) (e : ChainError) (f : ChainFault d x e) → ¬ IsDevice e → (s : ℕ)
    → ChainReads d x s ↔ (StandsAt s f.before ⊎ IsAtFault e s)
fault_reads_are = reading.of_fault

next_under : (first : ℕ) (o : Option Lba) (b : List ℕ) → NextIs first o b → (g : ℕ) → (p : Option Lba) × NextIs g p b
next_under first None b is g = (None, is)
next_under first (Some y) b is g = (Some (record { 0 = g + number_at 470 4 b }), (is.0, refl))

-- an extended boot record reads as one whatever the first sector is that its link counts from, with the same logical partition
pub ebr_rebased_lem : (first g : ℕ) (at : Lba) (e : Ebr) (b : List ℕ) → EbrBytes first at e b
    → (f : Ebr) × EbrBytes g at f b × (f.logical ≡ e.logical)
ebr_rebased_lem first g at e b is =
    let next = next_under first e.next b is.next g in (
      record { at = at; logical = e.logical; next = next.0 },
      record {
        signature = is.signature;
        boots = is.boots;
        zeros = is.zeros;
        logical_kind = is.logical_kind;
        link_kind = is.link_kind;
        place = refl;
        logical = is.logical;
        next = next.1;
      },
      refl,
    )
