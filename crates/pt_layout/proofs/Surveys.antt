-- What a survey tells, put together.
use Rattle.std.proofs.Common.{◌≡◌, ◌<◌, ◌^◌, ℕ, List, length, Bool, false, Option, Some, None, All, refl, sym, subst, arith, inl, inr}
use Rattle.std.specs.Prelude.{◌↔◌, IsTrue, Err}
use Rattle.pt_sector.specs.Sectors.{Sectors}
use Rattle.pt_gpt.specs.Copies.{HasCopy, HasRoom}
use Rattle.pt_gpt.specs.declared.table.Table.{Table}
use Rattle.pt_gpt.specs.declared.table.Side.TheVariants.{Primary}
use Rattle.pt_recover.specs.Denotes.{FoundIs, IsReason, IsTraceOf, BodyIs, Denotes, IsMbrDisk, Numbers, told_reason}
use Rattle.pt_recover.specs.Denotes.{BodyNumbers}
use Rattle.pt_members.specs.Members.{places_of, place_of, IsPlace}
use Rattle.pt_recover.specs.Spans.{IsIn, Adds}
use Rattle.pt_recover.specs.declared.error.Reason.{Reason}
use Rattle.pt_members.specs.declared.layout.Layout.{Layout}
use Rattle.pt_members.specs.declared.layout.Body.{Body}
use Rattle.pt_members.specs.declared.layout.Body.TheVariants.{Gpt}
use Rattle.pt_members.specs.declared.layout.Slice.{Slice}
use Rattle.pt_recover.specs.declared.trace.TracedRun.{TracedRun}
use Rattle.pt_layout.specs.declared.sound.finding.Finding.{Finding}
use Rattle.pt_layout.specs.declared.health.Head.{Head}
use Rattle.pt_layout.specs.declared.health.Head.TheVariants as head
use Rattle.pt_layout.specs.Healthy.{IsGuarded, place}
use Rattle.pt_layout.proofs.Guarded.{guarded_reads, reads_guarded, guarded_places, guarded_nowhere}
use Rattle.pt_layout.specs.Surveys.{HeadOf, FindingIs, IsSurvey, Tells}
use Rattle.pt_layout.specs.declared.survey.Survey.{Survey}
use Rattle.pt_layout.specs.inner.Surveys.{LayoutOf, IsBodyTrace, nothing_of}
use Rattle.pt_layout.proofs.Traced.{body_trace}
use Rattle.pt_layout.proofs.Verdicts.{gpt_denotes}

-- a number's slices have places that fit a number
pub places_fit : (n : ℕ) (ps : List Slice) → n < 2 ^ 64 → All (λ p. place_of p < n) ps → All (λ p. place_of p < 2 ^ 64) ps
places_fit n ps range all = λ k d lt. omega (arith, all k d lt, range)

-- the label places of these slices, and no other sectors
abbrev pub ArePlaces : List Slice → List TracedRun → Type 0
ArePlaces slices runs = (s : ℕ) → IsIn runs s ↔ IsPlace slices s

-- what is added where there was nothing
pub only_places : (old new : List TracedRun) (ps : List Slice) → ((s : ℕ) → ¬ IsIn old s) → Adds old new (IsPlace ps) → ArePlaces ps new
only_places old new ps none adds s = (λ i. elim ((adds s).0 i) [ inl was ↦ absurd (none s was) | inr at ↦ at ], λ at. (adds s).1 (inr at))

-- a GPT has no numbers of 32 bits
pub gpt_numbers : (o : Layout) (t : Table) → o.body ≡ Gpt t → Numbers o
gpt_numbers o t same = subst (λ (y : Body). BodyNumbers y) (sym same) tt

pub table_survey : (b : ℕ) (d : Sectors) (h : Head) (t : Table) (o : Layout) (f : Option Finding) (primary : Bool)
    (guarded trace : List TracedRun) → HeadOf d h → BodyIs b d (Gpt t) → LayoutOf b d t o → FindingIs b d (Some o) f
    → IsTrue primary ↔ HasCopy b d Primary
    → ArePlaces (places_of b (length d) (Gpt t)) guarded → IsTraceOf b d trace
    → IsSurvey b d (record { head = h; layout = Some o; finding = f; primary = primary; guarded = guarded; trace = trace })
table_survey b d h t o f primary guarded trace is body of finding first places traced = record {
  head = is;
  layout = gpt_denotes b d t o body of;
  numbers = gpt_numbers o t of.1;
  finding = finding;
  primary = λ plain room. first;
  guarded = λ s. (λ i. place (Gpt t) body ((places s).0 i), λ g. (places s).1 (guarded_places b d (Gpt t) s body.0 body g));
  trace = traced;
}

-- a disk that isn't an MBR disk, and denotes nothing
pub nothing_survey : (b : ℕ) (d : Sectors) (h : Head) (r : Reason) (guarded trace : List TracedRun)
    → HeadOf d h → ¬ IsMbrDisk d → Denotes b d None → IsReason b d (told_reason r) → (HasRoom b (length d) → ¬ HasCopy b d Primary)
    → ((s : ℕ) → ¬ IsIn guarded s) → IsBodyTrace b d trace → IsSurvey b d (nothing_of h r guarded trace)
nothing_survey b d h r guarded trace is plain none reason without empty traced = record {
  head = is;
  layout = none;
  numbers = tt;
  finding = (none, reason);
  primary = λ other room. (λ i. absurd cc, λ copy. absurd (without room copy));
  guarded = λ s. (λ i. absurd (empty s i), λ g. absurd (guarded_nowhere b d s plain none g));
  trace = body_trace b d trace none traced;
}

traced_guarded : (b : ℕ) (d : Sectors) (guarded trace : List TracedRun) → IsMbrDisk d → guarded ≡ trace → IsTraceOf b d trace → (s : ℕ)
    → IsIn guarded s ↔ IsGuarded b d s
traced_guarded b d guarded trace mbr same traced s =
    rw same (λ i. reads_guarded b d s mbr ((traced s).0 i), λ g. (traced s).1 (guarded_reads b d s g))

-- an MBR disk
pub mbr_survey : (b : ℕ) (d : Sectors) (o : Layout) (f : Option Finding) (guarded trace : List TracedRun)
    → IsMbrDisk d → Denotes b d (Some o) → Numbers o → FindingIs b d (Some o) f → guarded ≡ trace → IsTraceOf b d trace
    → IsSurvey b d (record { head = head.Mbr; layout = Some o; finding = f; primary = false; guarded = guarded; trace = trace })
mbr_survey b d o f guarded trace mbr denotes numbers finding same traced = record {
  head = mbr;
  layout = denotes;
  numbers = numbers;
  finding = finding;
  primary = λ plain. absurd (plain mbr);
  guarded = traced_guarded b d guarded trace mbr same traced;
  trace = traced;
}

-- an MBR disk that denotes nothing
pub mbr_nothing : (b : ℕ) (d : Sectors) (r : Reason) (guarded trace : List TracedRun) → IsMbrDisk d → FoundIs b d (Err r)
    → guarded ≡ trace → IsTraceOf b d trace → IsSurvey b d (nothing_of head.Mbr r guarded trace)
mbr_nothing b d r guarded trace mbr found same traced = record {
  head = mbr;
  layout = found.0;
  numbers = tt;
  finding = found;
  primary = λ plain. absurd (plain mbr);
  guarded = traced_guarded b d guarded trace mbr same traced;
  trace = traced;
}

-- what tells nothing has a reason
pub nothing_tells : (h : Head) (r : Reason) (guarded trace : List TracedRun) → Tells (nothing_of h r guarded trace)
nothing_tells h r guarded trace = λ none. (r, refl)
