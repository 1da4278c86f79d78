use Rattle.std.specs.Prelude.{◌≡◌, List, [], ◌∷◌, ◌++◌}
use Rattle.std.proofs.Common.{◌∙◌, inl, inr, refl, sym, ap, subst, append_assoc}
use Rattle.pt_sector.specs.Device.{Told}
use Rattle.pt_recover.specs.Denotes.{Denotes}
use Rattle.pt_plan.specs.Commits.{past, Either}
use Rattle.pt_plan.specs.Batches.{Change, ChangedBy, CommitsAny, RepairsAny}
use Rattle.pt_plan.specs.Sessions.{RunOf, Applies, Call, answered, Step, a_commit, calls_in, calls_of_all}
use Rattle.pt_plan.proofs.PlanCalls.{plan_carries_lem, plan_undone_lem}
use Rattle.pt_plan.proofs.RunsLemmas.{run_keeps_lem}
use Rattle.pt_plan.proofs.runs.laws.acknowledged_stays.Goals as goal

all_on : {W : Type 0} (steps : List (Step W)) (step : Step W) → calls_of_all (steps ++ step ∷ []) ≡ calls_of_all steps ++
    (calls_in step ++ [])
all_on [] step = refl
all_on (s ∷ steps) step = ap (λ (l : List (Call _)). calls_in s ++ l) (all_on steps step)
    ∙ sym (append_assoc (calls_in s) (calls_of_all steps) (calls_in step ++ []))

ran_on : (b n : _) (steps : List (Step Change)) (step : Step Change) (old mid new : Told) → RunOf b n steps old mid
    → RunOf b n (step ∷ []) mid new
    → RunOf b n (steps ++ step ∷ []) old new
ran_on b n [] step old mid new same one = subst (λ (x : Told). RunOf b n (step ∷ []) x new) same one
ran_on b n (s ∷ steps) step old mid new (next, did, rest) one = (next, did, ran_on b n steps step next mid new rest one)

pub returns : goal.returns
returns c = λ b n steps batch result old mid new d o x ran did settled is left.
    let keeps = run_keeps_lem (Denotes b) (ChangedBy b n) (CommitsAny b n) (λ w r s t q. q.1.history) (RepairsAny b n)
    (λ r s t q. q.1.history)
    (Applies b) (plan_carries_lem b n) (plan_undone_lem b) in
    let before = keeps steps old mid d o ran settled is in
    let all = keeps (steps ++ a_commit batch result ∷ []) old new d o (ran_on b n steps (a_commit batch result) old mid new ran
    (new, did, refl))
    settled is in
    all.keeps x (answered (calls_of_all steps) ++ Either batch ∷ []) (inr (record {
      before = calls_of_all steps;
      call = record { inside = Either batch; done = past batch result };
      after = [];
      are = all_on steps (a_commit batch result);
      start = mid;
      return = new;
      earlier = before.did;
      did = inl (batch, result, refl, did);
      later = refl;
      left = left;
      is = refl;
    }))
