-- The targets of sector 0 and of the chain, and what a call gives of them.
use Rattle.std.proofs.Common.{◌≡◌, ℕ, ◌⊎◌, List, [], ◌∷◌, Option, sym, ap, subst, ◌∙◌, inl, inr}
use Rattle.pt_sector.specs.Sectors.{Sectors, sector}
use Rattle.pt_mbr.specs.Changes.{ArePlain, mbr_of}
use Rattle.pt_mbr.specs.Chain.{StandsAt, EbrBytes}
use Rattle.pt_mbr.specs.Records.{MbrBytes, BearsProtective, extended_of}
use Rattle.pt_mbr.specs.declared.ebr.Ebr.{Ebr}
use Rattle.pt_mbr.specs.declared.record.Record.{Record}
use Rattle.pt_cases.specs.Writes.{IsLoneChain, link_to, IsHeadTarget, IsEbrOver, IsEbrMade, IsEbrTarget, over, made}
use Rattle.pt_cases.specs.Targets.{HasLoneChain, HasEbrs, AreMbrTargets}
use Rattle.pt_cases.specs.declared.targets.target.Target.{Target}
use Rattle.pt_planner.specs.inner.Places.{StartsAt, IsHeadOf, AreChainTargets, AreMbr, AreEbr}
use Rattle.pt_cases.specs.Unplanned.{FitsEbr, IsUnmadeHead, IsUnmadeEbr, HasUnmadeEbr, HasUnmadeIn}

-- one that stood there
pub over_is : (b : ℕ) (d : Sectors) (old : List Ebr) (first : ℕ) (e : Ebr) (link : Option Record) (under v : List ℕ)
    → under ≡ sector d e.at.0 → StandsAt e.at.0 old
    → (w : Ebr) × IsEbrOver first e w link under v → IsEbrTarget b d old first e link v
over_is b d old first e link under v holds stands is =
    IsEbrTarget.over is.0 stands (subst (λ (u : List ℕ). IsEbrOver first e is.0 link u v) holds is.1)

pub made_is : (b : ℕ) (d : Sectors) (old : List Ebr) (first : ℕ) (e : Ebr) (link : Option Record) (v : List ℕ) → ¬ StandsAt e.at.0 old
    → IsEbrMade b first e link v → IsEbrTarget b d old first e link v
made_is b d old first e link v nowhere is = IsEbrTarget.made nowhere is

-- sector 0, where it has no target
pub head_unmade : (d : Sectors) (old new : List (Option Record)) (under : List ℕ) → under ≡ sector d 0
    → ((v : List ℕ) → ¬ IsHeadTarget old new under v) → ¬ (ArePlain new × AreMbr old under) → IsUnmadeHead d old new
head_unmade d old new under holds none unfit = record {
  none = subst (λ (u : List ℕ). (v : List ℕ) → ¬ IsHeadTarget old new u v) holds none;
  unfit = λ fit. unfit (
    fit.0,
    (
      subst (λ (u : List ℕ). MbrBytes (mbr_of old) u) (sym holds) fit.1.bytes,
      subst (λ (u : List ℕ). ¬ BearsProtective u) (sym holds) fit.1.plain,
    ),
  );
}

-- an extended boot record that stood there, and has no target
pub over_unmade : (b : ℕ) (d : Sectors) (old : List Ebr) (first : ℕ) (e : Ebr) (es : List Ebr) (under : List ℕ)
    → under ≡ sector d e.at.0 → StandsAt e.at.0 old
    → ((w : Ebr) (v : List ℕ) → ¬ IsEbrOver first e w (link_to first es) under v) → ¬ (FitsEbr first e es × AreEbr e under)
    → IsUnmadeEbr b d old first e es
over_unmade b d old first e es under holds stands none unfit = record {
  none = refuse;
  unfit = λ fit. (let some = fit.1 stands in
      unfit (fit.0, (some.0, some.1, subst (λ (u : List ℕ). EbrBytes some.0 e.at some.1 u) (sym holds) some.2)));
} where
  refuse : (v : List ℕ) → ¬ IsEbrTarget b d old first e (link_to first es) v
  refuse v (over w there is) = none w v (subst (λ (u : List ℕ). IsEbrOver first e w (link_to first es) u v) (sym holds) is)
  refuse v (made nowhere is) = nowhere stands

-- a new one that has none
pub made_unmade : (b : ℕ) (d : Sectors) (old : List Ebr) (first : ℕ) (e : Ebr) (es : List Ebr) → ¬ StandsAt e.at.0 old
    → ((v : List ℕ) → ¬ IsEbrMade b first e (link_to first es) v) → ¬ FitsEbr first e es → IsUnmadeEbr b d old first e es
made_unmade b d old first e es nowhere none unfit = record {
  none = refuse;
  unfit = λ fit. unfit fit.0;
} where
  refuse : (v : List ℕ) → ¬ IsEbrTarget b d old first e (link_to first es) v
  refuse v (over w there is) = nowhere there
  refuse v (made other is) = none v is

-- of the lone extended record
has_chain : (b n : ℕ) (d : Sectors) (old : List Ebr) (rs : List Record) (first : ℕ) (chain : List Ebr) (ts : List (Target b))
    → StartsAt rs first → IsLoneChain n rs chain → HasEbrs d old first chain ts → HasLoneChain d old rs chain ts
has_chain b n d old [] first chain ts starts linked has = tt
has_chain b n d old (r ∷ []) first chain ts starts linked has = subst (λ (f : ℕ). HasEbrs d old f chain ts) starts has
has_chain b n d old (r ∷ s ∷ rs) first chain ts starts linked has = absurd linked

pub has_unmade : (b n : ℕ) (d : Sectors) (old : List Ebr) (rs : List Record) (first : ℕ) (chain : List Ebr) → StartsAt rs first
    → IsLoneChain n rs chain → HasUnmadeEbr b d old first chain → HasUnmadeIn b d old rs chain
has_unmade b n d old [] first chain starts linked none = subst (λ (l : List Ebr). HasUnmadeEbr b d old first l) linked none
has_unmade b n d old (r ∷ []) first chain starts linked none = subst (λ (f : ℕ). HasUnmadeEbr b d old f chain) starts none
has_unmade b n d old (r ∷ s ∷ rs) first chain starts linked none = absurd linked

-- sector 0 and the chain
pub are_targets : (b n : ℕ) (d : Sectors) (old_records records : List (Option Record)) (old chain : List Ebr) (head : Target b)
    (first : ℕ) (ts : List (Target b))
    → IsHeadOf d old_records records head → StartsAt (extended_of records) first → IsLoneChain n (extended_of records) chain
    → AreChainTargets d head old first chain ts → AreMbrTargets d old_records old records chain ts
are_targets b n d old_records records old chain head first ts is starts linked all = record {
  head = record { target = head; contains = all.start; at = is.at; under = is.under; is = is.is };
  ebrs = has_chain b n d old (extended_of records) first chain ts starts linked all.ebrs;
  each = λ t at. place t (all.each t at);
  tell = λ t at. told t (all.each t at);
  count = all.count;
} where
  place : (t : Target b) → (t ≡ head) ⊎ ((t.under ≡ sector d t.at.0) × StandsAt t.at.0 chain) → (t.at.0 ≡ 0) ⊎ StandsAt t.at.0 chain
  place t (inl same) = inl (ap (λ (u : Target b). u.at.0) same ∙ is.at)
  place t (inr stands) = inr stands.1

  told : (t : Target b) → (t ≡ head) ⊎ ((t.under ≡ sector d t.at.0) × StandsAt t.at.0 chain) → t.under ≡ sector d t.at.0
  told t (inl same) = subst (λ (u : Target b). u.under ≡ sector d u.at.0) (sym same) (is.under ∙ ap (λ (n : ℕ). sector d n) (sym is.at))
  told t (inr stands) = stands.0
