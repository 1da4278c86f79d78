-- Whether a disk is healthy with a layout, by a survey of it.
use Rattle.std.proofs.Common.{◌≡◌, ◌↔◌, ◌⊎◌, inl, inr, ℕ, Bool, true, false, Option, Some, None, IsTrue, refl, sym}
use Rattle.std.proofs.Common.{ap, ◌∙◌, subst}
use Rattle.std.specs.Prelude.{is_some, not}
use Rattle.pt_sector.specs.Sectors.{Sectors}
use Rattle.pt_recover.proofs.Terms.{denotes_one_lem}
use Rattle.pt_members.specs.declared.layout.Layout.{Layout}
use Rattle.pt_layout.specs.Healthy.{IsHealthy}
use Rattle.pt_layout.proofs.Terms.{finding_excludes_lem}
use Rattle.pt_layout.specs.Surveys.{FindingIs, IsSurvey}
use Rattle.pt_layout.specs.declared.sound.finding.Finding.{Finding}
use Rattle.pt_layout.specs.declared.survey.Survey.{Survey}

healthy_with : (b : ℕ) (d : Sectors) (old : Option Layout) (p : Layout) → old ≡ Some p → FindingIs b d old None → IsHealthy b d p
healthy_with b d old p same is = subst (λ (x : Option Layout). FindingIs b d x None) same is

excluded : (b : ℕ) (d : Sectors) (x : Survey) (p : Layout) (finding : Option Finding) → x.finding ≡ finding → IsSurvey b d x
    → IsHealthy b d p → finding ≡ None
excluded b d x p (Some f) same survey healthy =
    absurd (finding_excludes_lem b d f (subst (FindingIs b d x.layout) same survey.finding) (p, healthy))
excluded b d x p None same survey healthy = refl

none_by : (finding : Option Finding) (none : Bool) → is_some finding ≡ not none → none ≡ true → finding ≡ None
none_by None none is is_true = refl
none_by (Some f) none is is_true = absurd (let some : true ≡ not true = is ∙ ap not is_true in cc)

none_tells : (finding : Option Finding) (none : Bool) → is_some finding ≡ not none → finding ≡ None → none ≡ true
none_tells finding true is at = refl
none_tells finding false is at = absurd (let some : false ≡ true = sym (ap is_some at) ∙ is in cc)

-- a disk with this layout is healthy with it where nothing is wrong
pub done_here : (b : ℕ) (d : Sectors) (x : Survey) (p : Layout) (none : Bool) → x.layout ≡ Some p → is_some x.finding ≡ not none
    → IsSurvey b d x → IsTrue none ↔ IsHealthy b d p
done_here b d x p none same is survey = (
  (λ so. healthy_with b d x.layout p same (subst (FindingIs b d x.layout) (none_by x.finding none is so) survey.finding)),
  (λ healthy. none_tells x.finding none is (excluded b d x p x.finding refl survey healthy)),
)

-- and with another one it isn't
pub not_done_here : (b : ℕ) (d : Sectors) (x : Survey) (p : Layout) → ¬ (x.layout ≡ Some p) → IsSurvey b d x → ¬ IsHealthy b d p
not_done_here b d x p other survey healthy = other (denotes_one_lem b d x.layout (Some p) survey.layout healthy.denotes)

pub decided : {P : Type 0} (holds : Bool) → IsTrue holds ↔ P → P ⊎ ¬ P
decided true is = inl (is.0 refl)
decided false is = inr (λ p. absurd (let high : false ≡ true = is.1 p in cc))

pub low_isnt : (holds : Bool) → holds ≡ false → ¬ IsTrue holds
low_isnt true low so = (let both : true ≡ false = low in cc)
low_isnt false low so = (let both : false ≡ true = so in cc)
