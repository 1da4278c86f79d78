-- What a survey's trace has.
use Rattle.std.proofs.Common.{◌≡◌, ◌<◌, ℕ, List, [], length, refl, arith, inl, inr, None}
use Rattle.pt_sector.specs.Sectors.{Sectors}
use Rattle.pt_recover.specs.Denotes.{IsTraceOf, BodyIs, BodyReads, Denotes, Reads, TableReads, IsMbrDisk}
use Rattle.pt_recover.specs.Denotes as denotes
use Rattle.pt_gpt.specs.Copies.{HasRoom}
use Rattle.pt_members.specs.Members.{places_of, IsPlace}
use Rattle.pt_recover.specs.Spans.{IsIn, Adds}
use Rattle.pt_members.specs.declared.layout.Body.{Body}
use Rattle.pt_recover.specs.declared.trace.TracedRun.{TracedRun}
use Rattle.pt_recover.proofs.Traces.{in_none}
use Rattle.pt_recover.proofs.Whole.{all_read, trace_is}
use Rattle.pt_layout.specs.inner.Surveys.{IsBodyTrace}

from_nothing : (b : ℕ) (d : Sectors) (runs : List TracedRun) → IsBodyTrace b d runs → Adds [] runs (BodyReads b d)
from_nothing b d runs are s =
    (λ i. inr ((are s).0 i), λ x. elim x [ inl none ↦ absurd (in_none s none) | inr reads ↦ (are s).1 reads ])

-- the label places of a body, beside what decides it
pub whole_trace : (b : ℕ) (d : Sectors) (y : Body) (before after : List TracedRun) → BodyIs b d y → IsBodyTrace b d before
    → Adds before after (IsPlace (places_of b (length d) y)) → IsTraceOf b d after
whole_trace b d y before after is are adds =
    trace_is b d [] after in_none
    (all_read b (length d) d y (places_of b (length d) y) [] before after is refl refl (from_nothing b d before are) adds)

alone : (b : ℕ) (d : Sectors) (s : ℕ) → Denotes b d None → Reads b d s → BodyReads b d s
alone b d s none (denotes.body reads) = reads
alone b d s none (denotes.label y is at) = absurd (none y is)

-- of a disk that denotes nothing no label place is read
pub body_trace : (b : ℕ) (d : Sectors) (runs : List TracedRun) → Denotes b d None → IsBodyTrace b d runs → IsTraceOf b d runs
body_trace b d runs none are s = (λ i. denotes.body ((are s).0 i), λ reads. (are s).1 (alone b d s none reads))

-- sector 0 alone
small_reads : (b : ℕ) (d : Sectors) (s : ℕ) → ¬ IsMbrDisk d → ¬ HasRoom b (length d) → BodyReads b d s → s ≡ 0
small_reads b d s plain small (denotes.head some at) = at
small_reads b d s plain small (denotes.chain m is reads) = absurd (plain is.0)
small_reads b d s plain small (denotes.table other room reads) = absurd (small room)

pub small_trace : (b : ℕ) (d : Sectors) (none runs : List TracedRun) → 0 < length d → ¬ IsMbrDisk d → ¬ HasRoom b (length d)
    → ((s : ℕ) → ¬ IsIn none s) → Adds none runs (λ s. s ≡ 0) → IsBodyTrace b d runs
small_trace b d none runs some plain small empty adds s = (
  λ i. elim ((adds s).0 i) [ inl was ↦ absurd (empty s was) | inr at ↦ denotes.head some at ],
  λ reads. (adds s).1 (inr (small_reads b d s plain small reads)),
)

-- sector 0, and then what decides a table
table_reads : (b : ℕ) (d : Sectors) (one after : List TracedRun) (s : ℕ) → ¬ IsMbrDisk d → (s ≡ 0 → IsIn one s)
    → Adds one after (TableReads b d) → BodyReads b d s → IsIn after s
table_reads b d one after s plain first adds (denotes.head some at) = (adds s).1 (inl (first at))
table_reads b d one after s plain first adds (denotes.chain m is reads) = absurd (plain is.0)
table_reads b d one after s plain first adds (denotes.table other room reads) = (adds s).1 (inr reads)

pub table_trace : (b : ℕ) (d : Sectors) (none one after : List TracedRun) → 0 < length d → ¬ IsMbrDisk d → HasRoom b (length d)
    → ((s : ℕ) → ¬ IsIn none s) → Adds none one (λ s. s ≡ 0) → Adds one after (TableReads b d) → IsBodyTrace b d after
table_trace b d none one after some plain room empty first second s = (
  λ i. elim ((second s).0 i) [
    | inl was ↦ elim ((first s).0 was) [ inl never ↦ absurd (empty s never) | inr at ↦ denotes.head some at ]
    | inr reads ↦ denotes.table plain room reads
  ],
  λ reads. table_reads b d one after s plain (λ at. (first s).1 (inr at)) second reads,
)

-- a disk without sectors
nothing_reads : (b : ℕ) (d : Sectors) (s : ℕ) → length d ≡ 0 → ¬ IsMbrDisk d → ¬ HasRoom b (length d) → BodyReads b d s → ⊥
nothing_reads b d s none plain small (denotes.head some at) = absurd (omega (arith, some, none))
nothing_reads b d s none plain small (denotes.chain m is reads) = plain is.0
nothing_reads b d s none plain small (denotes.table other room reads) = small room

pub empty_trace : (b : ℕ) (d : Sectors) (runs : List TracedRun) → length d ≡ 0 → ¬ IsMbrDisk d → ¬ HasRoom b (length d)
    → ((s : ℕ) → ¬ IsIn runs s) → IsBodyTrace b d runs
empty_trace b d runs none plain small empty s =
    (λ i. absurd (empty s i), λ reads. absurd (nothing_reads b d s none plain small reads))
