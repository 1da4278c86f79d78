-- Lemmas on calls one after another, and what a crash may have left of them. L is a layout, W the words of a call, R a refusal of words.
use Rattle.std.specs.Prelude.{◌≡◌, List, [], ◌∷◌, ◌++◌, Option, Result, Bool, ◌⊎◌, Ok, Err}
use Rattle.std.proofs.Common.{◌∙◌, refl, sym, ap, subst, append_assoc, inl, inr, ⊎_elim, arith, map}
use Rattle.std.proofs.lemmas.List.{append-nil, append_cancel_left}
use Rattle.pt_sector.specs.Sectors.{Sectors, sector}
use Rattle.pt_sector.specs.Device.{Told, Moment, MayLeave, LeftBy, LeavesOnly, Elapses, now_of, Flushed, FailedFlush}
use Rattle.pt_sector.proofs.Since.{leaves_none, leaves_through, leaves_weaker}
use Rattle.pt_apply.specs.Plans.{Settled}
use Rattle.pt_plan.specs.Commits.{Past, Has, Holds, Carries, past, Unchanged, Either, History}
use Rattle.pt_plan.proofs.EveryPlan.{settled_leaves}
use Rattle.pt_plan.specs.Sessions.{Call, answered, IsCutShort, HasCutShort, CarryOn, Step, a_commit, a_repair, a_session, a_plan, nothing}
use Rattle.pt_plan.specs.Sessions.{calls_in, calls_of_all, IsLeftBy, Did, Ran, DidCall, DidCalls, CrashIn, Lives, LivesKnown}
use Rattle.pt_plan.specs.Sessions.{KeepsHistory, Session, reply_of, call_of_reply, calls_of, OnlyFlushes}
use Rattle.pt_plan.specs.declared.runs.sessions.Reply.{Reply}
use Rattle.pt_plan.specs.inner.Sessions.{Replied}
use Rattle.pt_plan.specs.declared.error.CommitError.{CommitError}
use Rattle.pt_plan.specs.declared.error.CommitError.TheVariants.{NoTable, Edit, Plan, Check, Device, Memory}
use Rattle.pt_plan.specs.declared.repair_error.RepairError.{RepairError}
use Rattle.pt_plan.specs.declared.runs.sessions.Reply.TheVariants as reply

answered_on : {W : Type 0} (xs ys : List (Call W)) → answered (xs ++ ys) ≡ answered xs ++ answered ys
answered_on [] ys = refl
answered_on (call ∷ xs) ys = ap (λ (l : List (Past _)). call.done ∷ l) (answered_on xs ys)

cut_earlier : {W : Type 0} (xs ys : List (Call W)) (past : List (Past W)) → IsCutShort xs past → IsCutShort (xs ++ ys) past
cut_earlier xs ys past cut = record {
  before = cut.before;
  call = cut.call;
  after = cut.after ++ ys;
  are = ap (λ (l : List (Call _)). l ++ ys) cut.are ∙ append_assoc cut.before (cut.call ∷ cut.after) ys;
  is = cut.is;
}

cut_later : {W : Type 0} (xs ys : List (Call W)) (past : List (Past W)) → IsCutShort ys past → IsCutShort (xs ++ ys) (answered xs ++ past)
cut_later xs ys past cut = record {
  before = xs ++ cut.before;
  call = cut.call;
  after = cut.after;
  are = ap (λ (l : List (Call _)). xs ++ l) cut.are ∙ sym (append_assoc xs cut.before (cut.call ∷ cut.after));
  is = ap (λ (l : List (Past _)). answered xs ++ l) cut.is ∙ sym (append_assoc (answered xs) (answered cut.before) (cut.call.inside ∷ []))
      ∙ ap (λ (l : List (Past _)). l ++ cut.call.inside ∷ []) (sym (answered_on xs cut.before));
}

cut_one : {W : Type 0} (call : Call W) → IsCutShort (call ∷ []) (call.inside ∷ [])
cut_one call = record { before = []; call = call; after = []; are = refl; is = refl }

module _ {L W R : Type 0} (denotes : Sectors → Option L → Type 0) (edited : Option L → W → Result L R → Type 0) where
  -- a disk that a crash left goes on, as a device on which nothing is pending, with each history that it has
  pub begins_again_lem : (now : Told) (d : Sectors) (o : Option L) (calls : List (Past W)) → Settled now d
      → Has denotes edited o calls d → Holds denotes edited o calls now
  begins_again_lem now d o calls settled has c may =
      subst (λ (x : Sectors). Has denotes edited o calls x) (sym (settled_leaves now d settled c may)) has

  -- a history may begin with what the durable disk denotes, where nothing is pending
  pub begins_lem : (now : Told) (d : Sectors) (o : Option L) → Settled now d → denotes d o → Holds denotes edited o [] now
  begins_lem now d o settled is = begins_again_lem now d o [] settled (o, is, refl)

  pub none_carry_lem : (now : Told) → CarryOn denotes edited [] now now
  none_carry_lem now = record {
    any_moment = λ o earlier start. leaves_none now _;
    at_return = λ o earlier start c may. subst (λ (past : List (Past W)). Has denotes edited o past c) (sym (append-nil earlier))
        (start c may);
  }

  pub one_carries_lem : (call : Call W) (old new : Told) → Carries denotes edited call.inside call.done old new
      → CarryOn denotes edited (call ∷ []) old new
  one_carries_lem call old new one = record {
    any_moment = λ o earlier start. leaves_weaker old new _ _ (λ c has. (call.inside ∷ [], cut_one call, has))
        (one.any_moment o earlier start);
    at_return = one.at_return;
  }

  -- calls, and others behind them
  pub carry_through_lem : (xs ys : List (Call W)) (old mid new : Told) → CarryOn denotes edited xs old mid
      → CarryOn denotes edited ys mid new → CarryOn denotes edited (xs ++ ys) old new
  carry_through_lem xs ys old mid new first next = record {
    any_moment = λ o earlier start. leaves_through old mid new (HasCutShort denotes edited o earlier (xs ++ ys))
        (leaves_weaker old mid _ _ (λ c has. (has.0, cut_earlier xs ys has.0 has.1, has.2)) (first.any_moment o earlier start))
        (leaves_weaker mid new _ _
        (λ c has. (
          answered xs ++ has.0,
          cut_later xs ys has.0 has.1,
          subst (λ (past : List (Past W)). Has denotes edited o past c) (append_assoc earlier (answered xs) has.0) has.2,
        ))
        (next.any_moment o (earlier ++ answered xs) (first.at_return o earlier start)));
    at_return = λ o earlier start c may. subst (λ (past : List (Past W)). Has denotes edited o past c)
        (append_assoc earlier (answered xs) (answered ys) ∙ ap (λ (past : List (Past W)). earlier ++ past) (sym (answered_on xs ys)))
        (next.at_return o (earlier ++ answered xs) (first.at_return o earlier start) c may);
  }

  -- one call more
  pub more_carry_lem : (calls : List (Call W)) (call : Call W) (old mid new : Told) → CarryOn denotes edited calls old mid
      → Carries denotes edited call.inside call.done mid new → CarryOn denotes edited (calls ++ call ∷ []) old new
  more_carry_lem calls call old mid new first next =
      carry_through_lem calls (call ∷ []) old mid new first (one_carries_lem call mid new next)

  pub two_carry_lem : (first second : Call W) (old mid new : Told) → Carries denotes edited first.inside first.done old mid
      → Carries denotes edited second.inside second.done mid new → CarryOn denotes edited (first ∷ second ∷ []) old new
  two_carry_lem first second old mid new one two = more_carry_lem (first ∷ []) second old mid new (one_carries_lem first old mid one) two

-- one for each of these batches, in order
abbrev pub Replies : {W : Type 0} → Bool → List W → List Reply → Bool → Type 0
Replies before [] [] last = last ≡ before
Replies before (w ∷ ws) (r ∷ rs) last = (next : Bool) × Replied before r next × Replies next ws rs last
Replies before ws rs last = ⊥

reply_call : {W : Type 0} (w : W) (result : Result Unit CommitError)
    → call_of_reply w (reply_of result) ≡ record { inside = Either w; done = past w result }
reply_call w (Ok x) = refl
reply_call w (Err (NoTable e)) = refl
reply_call w (Err (Edit r)) = refl
reply_call w (Err (Plan e)) = refl
reply_call w (Err (Check why)) = refl
reply_call w (Err (Device fault)) = refl
reply_call w (Err Memory) = refl

left_split : (a b : List Moment) (c : Sectors) → LeftBy (a ++ b) c → LeftBy a c ⊎ LeftBy b c
left_split [] b c left = inr left
left_split (m ∷ a) b c (inl here) = inl (inl here)
left_split (m ∷ a) b c (inr there) = ⊎_elim (λ x. inl (inr x)) (λ y. inr y) (left_split a b c there)

module _ {W : Type 0} (commits : W → Result Unit CommitError → Told → Told → Type 0)
    (repairs : Result Unit RepairError → Told → Told → Type 0) (applies : Call W → Told → Told → Type 0) where
  calls_on : (xs ys : List (Call W)) (old mid new : Told) → DidCalls commits repairs applies xs old mid
      → DidCalls commits repairs applies ys mid new
      → DidCalls commits repairs applies (xs ++ ys) old new
  calls_on [] ys old mid new same rest = subst (λ (x : Told). DidCalls commits repairs applies ys x new) same rest
  calls_on (call ∷ xs) ys old mid new (next, did, first) rest = (next, did, calls_on xs ys next mid new first rest)

  batch_did : (w : W) (r : Reply) (ws : List W) (rs : List Reply) (old new : Told)
      → ((mid : Told) → Session commits ws rs mid new → DidCalls commits repairs applies (calls_of ws rs) mid new)
      → (result : Result Unit CommitError) × (mid : Told) ×
      (r ≡ reply_of result) × commits w result old mid × Session commits ws rs mid new
      → DidCalls commits repairs applies (call_of_reply w r ∷ calls_of ws rs) old new
  batch_did w r ws rs old new others (result, mid, is, did, rest) =
      (mid, inl (w, result, ap (λ (x : Reply). call_of_reply w x) is ∙ reply_call w result, did), others mid rest)

  session_did : (ws : List W) (rs : List Reply) (old new : Told) → Session commits ws rs old new
      → DidCalls commits repairs applies (calls_of ws rs) old new
  session_did [] [] old new same = same
  session_did [] (r ∷ rs) old new none = absurd none
  session_did (w ∷ ws) [] old new none = absurd none
  session_did (w ∷ ws) (reply.NotTried ∷ rs) old new rest = (old, inr (inr (refl, inr refl)), session_did ws rs old new rest)
  session_did (w ∷ ws) (reply.Done ∷ rs) old new did =
      batch_did w reply.Done ws rs old new (λ mid rest. session_did ws rs mid new rest) did
  session_did (w ∷ ws) (reply.Refused e ∷ rs) old new did =
      batch_did w (reply.Refused e) ws rs old new (λ mid rest. session_did ws rs mid new rest) did
  session_did (w ∷ ws) (reply.Fault fault ∷ rs) old new did =
      batch_did w (reply.Fault fault) ws rs old new (λ mid rest. session_did ws rs mid new rest) did

  step_did : (step : Step W) (old new : Told) → Did commits repairs applies step old new
      → DidCalls commits repairs applies (calls_in step) old new
  step_did (a_commit w result) old new did = (new, inl (w, result, refl, did), refl)
  step_did (a_repair result) old new did = (new, inr (inr (refl, inl (result, did))), refl)
  step_did (a_session ws rs) old new did = session_did ws rs old new did
  step_did (a_plan call) old new did = (new, inr (inl did), refl)
  step_did nothing old new same = same

  run_did : (steps : List (Step W)) (old new : Told) → Ran commits repairs applies steps old new
      → DidCalls commits repairs applies (calls_of_all steps) old new
  run_did [] old new same = same
  run_did (step ∷ steps) old new (mid, did, rest) =
      calls_on (calls_in step) (calls_of_all steps) old mid new (step_did step old mid did) (run_did steps mid new rest)

  -- a crash in calls with one more before them
  later_crash : (call : Call W) (calls : List (Call W)) (old mid new : Told) (c : Sectors) (known : List (Past W))
      → DidCall commits repairs applies call old mid → CrashIn commits repairs applies calls mid new known c
      → CrashIn commits repairs applies (call ∷ calls) old new (call.done ∷ known) c
  later_crash call calls old mid new c known did (inl crash) = inl (record {
    before = call ∷ crash.before;
    after = crash.after;
    are = ap (λ (l : List (Call W)). call ∷ l) crash.are;
    now = crash.now;
    earlier = (mid, did, crash.earlier);
    later = crash.later;
    left = crash.left;
    is = ap (λ (l : List (Past W)). call.done ∷ l) crash.is;
  })
  later_crash call calls old mid new c known did (inr crash) = inr (record {
    before = call ∷ crash.before;
    call = crash.call;
    after = crash.after;
    are = ap (λ (l : List (Call W)). call ∷ l) crash.are;
    start = crash.start;
    return = crash.return;
    earlier = (mid, did, crash.earlier);
    did = crash.did;
    later = crash.later;
    left = crash.left;
    is = ap (λ (l : List (Past W)). call.done ∷ l) crash.is;
  })

module _ {L W R : Type 0} (denotes : Sectors → Option L → Type 0) (edited : Option L → W → Result L R → Type 0) where
  history_unchanged : (calls : List (Past W)) (o p : Option L) → History denotes edited calls o p
      → History denotes edited (calls ++ Unchanged ∷ []) o p
  history_unchanged [] o p same = (p, same, refl)
  history_unchanged (call ∷ calls) o p (m, first, rest) = (m, first, history_unchanged calls m p rest)

  history_either : (calls : List (Past W)) (w : W) (o p : Option L) → History denotes edited calls o p
      → History denotes edited (calls ++ Either w ∷ []) o p
  history_either [] w o p same = (p, inl same, refl)
  history_either (call ∷ calls) w o p (m, first, rest) = (m, first, history_either calls w m p rest)

  nothing_carries : (now : Told) → Carries denotes edited Unchanged Unchanged now now
  nothing_carries now = record {
    any_moment = λ o calls start. leaves_none now _;
    at_return = λ o calls start c may. let has : Has denotes edited o calls c = start c may in
        (has.0, has.1, history_unchanged calls o has.0 has.2);
  }

  carry_nothing : (old new : Told) → new ≡ old → CarryOn denotes edited [] old new
  carry_nothing old new same = subst (λ (x : Told). CarryOn denotes edited [] old x) (sym same) (none_carry_lem denotes edited old)

  -- where each commit carries every history on, with the call that its answer tells
  module _ (commits : W → Result Unit CommitError → Told → Told → Type 0)
      (each : (w : W) (result : Result Unit CommitError) (old new : Told) → commits w result old new
      → Carries denotes edited (Either w) (past w result) old new) where
    replied : (w : W) (r : Reply) (result : Result Unit CommitError) (old new : Told) → r ≡ reply_of result → commits w result old new
        → CarryOn denotes edited (call_of_reply w r ∷ []) old new
    replied w r result old new is did = one_carries_lem denotes edited (call_of_reply w r) old new
        (subst (λ (call : Call W). Carries denotes edited call.inside call.done old new)
        (sym (ap (λ (x : Reply). call_of_reply w x) is ∙ reply_call w result)) (each w result old new did))

    tried : (w : W) (r : Reply) (ws : List W) (rs : List Reply) (old new : Told)
        → ((mid : Told) → Session commits ws rs mid new → CarryOn denotes edited (calls_of ws rs) mid new)
        → (result : Result Unit CommitError) × (mid : Told) ×
        (r ≡ reply_of result) × commits w result old mid × Session commits ws rs mid new
        → CarryOn denotes edited (call_of_reply w r ∷ calls_of ws rs) old new
    tried w r ws rs old new others (result, mid, is, did, rest) =
        carry_through_lem denotes edited (call_of_reply w r ∷ []) (calls_of ws rs) old mid new (replied w r result old mid is did)
        (others mid rest)

    pub session_carries_lem : (ws : List W) (rs : List Reply) (old new : Told) → Session commits ws rs old new
        → CarryOn denotes edited (calls_of ws rs) old new
    session_carries_lem [] [] old new same = carry_nothing old new same
    session_carries_lem [] (r ∷ rs) old new none = absurd none
    session_carries_lem (w ∷ ws) [] old new none = absurd none
    session_carries_lem (w ∷ ws) (reply.NotTried ∷ rs) old new rest =
        carry_through_lem denotes edited (call_of_reply w reply.NotTried ∷ []) (calls_of ws rs) old old new
        (one_carries_lem denotes edited (call_of_reply w reply.NotTried) old old (nothing_carries old))
        (session_carries_lem ws rs old new rest)
    session_carries_lem (w ∷ ws) (reply.Done ∷ rs) old new did =
        tried w reply.Done ws rs old new (λ mid rest. session_carries_lem ws rs mid new rest) did
    session_carries_lem (w ∷ ws) (reply.Refused e ∷ rs) old new did =
        tried w (reply.Refused e) ws rs old new (λ mid rest. session_carries_lem ws rs mid new rest) did
    session_carries_lem (w ∷ ws) (reply.Fault fault ∷ rs) old new did =
        tried w (reply.Fault fault) ws rs old new (λ mid rest. session_carries_lem ws rs mid new rest) did

    -- and each repair, and each plan from elsewhere, which is a change or none
    module _ (repairs : Result Unit RepairError → Told → Told → Type 0)
        (mended : (result : Result Unit RepairError) (old new : Told) → repairs result old new
        → Carries denotes edited Unchanged Unchanged old new)
        (applies : Call W → Told → Told → Type 0)
        (applied : (call : Call W) (old new : Told) → applies call old new → Carries denotes edited call.inside call.done old new)
        (undone : (call : Call W) (old new : Told) → applies call old new
        → (call.inside ≡ Unchanged) ⊎ ((w : W) × (call.inside ≡ Either w))) where
      step_carries : (step : Step W) (old new : Told) → Did commits repairs applies step old new
          → CarryOn denotes edited (calls_in step) old new
      step_carries (a_commit w result) old new did =
          one_carries_lem denotes edited (record { inside = Either w; done = past w result }) old new (each w result old new did)
      step_carries (a_repair result) old new did =
          one_carries_lem denotes edited (record { inside = Unchanged; done = Unchanged }) old new (mended result old new did)
      step_carries (a_session ws rs) old new did = session_carries_lem ws rs old new did
      step_carries (a_plan call) old new did = one_carries_lem denotes edited call old new (applied call old new did)
      step_carries nothing old new same = carry_nothing old new same

      pub run_carries_lem : (steps : List (Step W)) (old new : Told) → Ran commits repairs applies steps old new
          → CarryOn denotes edited (calls_of_all steps) old new
      run_carries_lem [] old new same = carry_nothing old new same
      run_carries_lem (step ∷ steps) old new (mid, did, rest) =
          carry_through_lem denotes edited (calls_in step) (calls_of_all steps) old mid new
          (step_carries step old mid did) (run_carries_lem steps mid new rest)

      call_carries : (call : Call W) (old new : Told) → DidCall commits repairs applies call old new
          → Carries denotes edited call.inside call.done old new
      call_carries call old new (inl (w, result, is, did)) =
          subst (λ (x : Call W). Carries denotes edited x.inside x.done old new) (sym is) (each w result old new did)
      call_carries call old new (inr (inl did)) = applied call old new did
      call_carries call old new (inr (inr (is, inl (result, did)))) =
          subst (λ (x : Call W). Carries denotes edited x.inside x.done old new) (sym is) (mended result old new did)
      call_carries call old new (inr (inr (is, inr same))) =
          subst (λ (x : Call W). Carries denotes edited x.inside x.done old new) (sym is)
          (subst (λ (x : Told). Carries denotes edited Unchanged Unchanged old x) (sym same) (nothing_carries old))

      calls_carry : (calls : List (Call W)) (old new : Told) → DidCalls commits repairs applies calls old new
          → CarryOn denotes edited calls old new
      calls_carry [] old new same = carry_nothing old new same
      calls_carry (call ∷ calls) old new (mid, did, rest) =
          carry_through_lem denotes edited (call ∷ []) calls old mid new
          (one_carries_lem denotes edited call old mid (call_carries call old mid did)) (calls_carry calls mid new rest)

      -- what was so before a call is so within it: the call may have done nothing yet
      may_be_undone : (call : Call W) (old new : Told) (o : Option L) (calls : List (Past W)) (c : Sectors)
          → DidCall commits repairs applies call old new → Has denotes edited o calls c → Has denotes edited o (calls ++ call.inside ∷ []) c
      may_be_undone call old new o calls c (inl (w, result, is, did)) has =
          subst (λ (x : Call W). Has denotes edited o (calls ++ x.inside ∷ []) c) (sym is)
          (has.0, has.1, history_either calls w o has.0 has.2)
      may_be_undone call old new o calls c (inr (inl did)) has = ⊎_elim
          (λ is. subst (λ (x : Past W). Has denotes edited o (calls ++ x ∷ []) c) (sym is)
          (has.0, has.1, history_unchanged calls o has.0 has.2))
          (λ it. subst (λ (x : Past W). Has denotes edited o (calls ++ x ∷ []) c) (sym it.1)
          (has.0, has.1, history_either calls it.0 o has.0 has.2))
          (undone call old new did)
      may_be_undone call old new o calls c (inr (inr (is, did))) has =
          subst (λ (x : Call W). Has denotes edited o (calls ++ x.inside ∷ []) c) (sym is)
          (has.0, has.1, history_unchanged calls o has.0 has.2)

      -- since a call's start
      left_within : (P Q : Sectors → Type 0) (old new : Told) (c : Sectors) → ((x : Sectors) → MayLeave old x → P x) → LeavesOnly old new Q
          → IsLeftBy old new c → P c ⊎ Q c
      left_within P Q old new c before leaves (inl (more, time, at)) =
          ⊎_elim (λ may. inl (before c may)) (λ has. inr has)
          (leaves.inside c
          (subst (λ (l : List Moment). LeftBy l c) (append_cancel_left old.past more leaves.more (sym time ∙ leaves.past)) at))
      left_within P Q old new c before leaves (inr may) =
          ⊎_elim (λ m. inl (before c m)) (λ has. inr has) (leaves.at_end c may)

      keeps_in : (o : Option L) (earlier : List (Past W)) (calls : List (Call W)) (old new : Told) → Holds denotes edited o earlier old
          → (c : Sectors) (known : List (Past W)) → CrashIn commits repairs applies calls old new known c
          → Has denotes edited o (earlier ++ known) c
      keeps_in o earlier calls old new start c known (inl crash) =
          subst (λ (l : List (Past W)). Has denotes edited o (earlier ++ l) c) (sym crash.is)
          ((calls_carry crash.before old crash.now crash.earlier).at_return o earlier start c crash.left)
      keeps_in o earlier calls old new start c known (inr crash) =
          let so_far : Holds denotes edited o (earlier ++ answered crash.before) crash.start =
          (calls_carry crash.before old crash.start crash.earlier).at_return o earlier start in
          let carry : Carries denotes edited crash.call.inside crash.call.done crash.start crash.return =
          call_carries crash.call crash.start crash.return crash.did in
          let has : Has denotes edited o ((earlier ++ answered crash.before) ++ crash.call.inside ∷ []) c =
          ⊎_elim (λ before. may_be_undone crash.call crash.start crash.return o (earlier ++ answered crash.before) c crash.did before)
          (λ within. within)
          (left_within (Has denotes edited o (earlier ++ answered crash.before))
          (Has denotes edited o ((earlier ++ answered crash.before) ++ crash.call.inside ∷ [])) crash.start crash.return c so_far
          (carry.any_moment o (earlier ++ answered crash.before) so_far) crash.left) in
          subst (λ (l : List (Past W)). Has denotes edited o (earlier ++ l) c) (sym crash.is)
          (subst (λ (l : List (Past W)). Has denotes edited o l c)
          (append_assoc earlier (answered crash.before) (crash.call.inside ∷ [])) has)

      each_in : (o : Option L) (earlier : List (Past W)) (calls : List (Call W)) (old new : Told) → Holds denotes edited o earlier old
          → DidCalls commits repairs applies calls old new → (c : Sectors) → IsLeftBy old new c
          → (known : List (Past W)) × CrashIn commits repairs applies calls old new known c
      each_in o earlier [] old new start same c (inl (more, time, at)) =
          absurd (subst (λ (l : List Moment). LeftBy l c)
          (append_cancel_left old.past more [] (sym time ∙ ap (λ (x : Told). x.past) same ∙ sym (append-nil old.past))) at)
      each_in o earlier [] old new start same c (inr may) =
          ([], inl (record { before = []; after = []; are = refl; now = new; earlier = same; later = refl; left = may; is = refl }))
      each_in o earlier (call ∷ calls) old new start (mid, did, rest) c left =
          let carry : Carries denotes edited call.inside call.done old mid = call_carries call old mid did in
          let first : LeavesOnly old mid (Has denotes edited o (earlier ++ call.inside ∷ [])) = carry.any_moment o earlier start in
          let next : Holds denotes edited o (earlier ++ call.done ∷ []) mid = carry.at_return o earlier start in
          let others : IsLeftBy mid new c → (known : List (Past W)) × CrashIn commits repairs applies (call ∷ calls) old new known c =
          λ later. let found : (known : List (Past W)) × CrashIn commits repairs applies calls mid new known c =
          each_in o (earlier ++ call.done ∷ []) calls mid new next rest c later in
          (call.done ∷ found.0, later_crash commits repairs applies call calls old mid new c found.0 did found.1) in
          let then : LeavesOnly mid new _ = (calls_carry calls mid new rest).any_moment o (earlier ++ call.done ∷ []) next in
          ⊎_elim
          (λ at. ⊎_elim
          (λ here. (
            call.inside ∷ [],
            inr (record {
              before = [];
              call = call;
              after = calls;
              are = refl;
              start = old;
              return = mid;
              earlier = refl;
              did = did;
              later = rest;
              left = inl (first.more, first.past, here);
              is = refl;
            }),
          ))
          (λ there. others (inl (then.more, then.past, there)))
          (left_split first.more then.more c (subst (λ (l : List Moment). LeftBy l c)
          (append_cancel_left old.past at.0 (first.more ++ then.more)
          (sym at.1 ∙ then.past ∙ ap (λ (l : List Moment). l ++ then.more) first.past ∙ append_assoc old.past first.more then.more)) at.2)))
          (λ may. others (inr may))
          left

      -- a run on a disk that earlier calls left
      pub run_goes_on_lem : (steps : List (Step W)) (old new : Told) (o : Option L) (earlier : List (Past W))
          → Ran commits repairs applies steps old new
          → Holds denotes edited o earlier old
          → KeepsHistory commits repairs applies denotes edited o earlier (calls_of_all steps) old new
      run_goes_on_lem steps old new o earlier ran start =
          let did : DidCalls commits repairs applies (calls_of_all steps) old new = run_did commits repairs applies steps old new ran in
          let moments : LeavesOnly old new (HasCutShort denotes edited o earlier (calls_of_all steps)) =
          (run_carries_lem steps old new ran).any_moment o earlier start in
          record {
            did = did;
            more = moments.more;
            past = moments.past;
            each = λ c left. each_in o earlier (calls_of_all steps) old new start did c
                (⊎_elim (λ at. inl (moments.more, moments.past, at)) (λ may. inr may) left);
            keeps = keeps_in o earlier (calls_of_all steps) old new start;
          }

      pub run_keeps_lem : (steps : List (Step W)) (old new : Told) (d : Sectors) (o : Option L) → Ran commits repairs applies steps old new
          → Settled old d → denotes d o
          → KeepsHistory commits repairs applies denotes edited o [] (calls_of_all steps) old new
      run_keeps_lem steps old new d o ran settled is = run_goes_on_lem steps old new o [] ran (begins_lem denotes edited old d o settled is)

      lives_after : (runs : List (List (Step W))) (known : List (Past W)) (d e : Sectors) (o : Option L) (earlier : List (Past W))
          → LivesKnown commits repairs applies runs known d e → Has denotes edited o earlier d → Has denotes edited o (earlier ++ known) e
      lives_after [] known d e o earlier (none, same) has =
          subst (λ (calls : List (Past W)). Has denotes edited o (earlier ++ calls) e) (sym none)
          (subst (λ (calls : List (Past W)). Has denotes edited o calls e) (sym (append-nil earlier))
          (subst (λ (x : Sectors). Has denotes edited o earlier x) (sym same) has))
      lives_after (steps ∷ runs) known d e o earlier (old, new, c, here, rest, are, settled, ran, crash, next) has =
          let start : Holds denotes edited o earlier old = begins_again_lem denotes edited old d o earlier settled has in
          let then : Has denotes edited o (earlier ++ here) c = keeps_in o earlier (calls_of_all steps) old new start c here crash in
          let last : Has denotes edited o ((earlier ++ here) ++ rest) e = lives_after runs rest c e o (earlier ++ here) next then in
          subst (λ (calls : List (Past W)). Has denotes edited o (earlier ++ calls) e) (sym are)
          (subst (λ (calls : List (Past W)). Has denotes edited o calls e) (append_assoc earlier here rest) last)

      pub lives_keep_lem : (runs : List (List (Step W))) (known : List (Past W)) (d e : Sectors) (o : Option L) → denotes d o
          → LivesKnown commits repairs applies runs known d e → Has denotes edited o known e
      lives_keep_lem runs known d e o is lives = lives_after runs known d e o [] lives (o, is, refl)

      lives_known_after : (runs : List (List (Step W))) (d e : Sectors) (o : Option L) (earlier : List (Past W))
          → Lives commits repairs applies runs d e → Has denotes edited o earlier d
          → (known : List (Past W)) × LivesKnown commits repairs applies runs known d e
      lives_known_after [] d e o earlier same has = ([], (refl, same))
      lives_known_after (steps ∷ runs) d e o earlier (old, new, c, settled, ran, left, next) has =
          let start : Holds denotes edited o earlier old = begins_again_lem denotes edited old d o earlier settled has in
          let here : (known : List (Past W)) × CrashIn commits repairs applies (calls_of_all steps) old new known c =
          each_in o earlier (calls_of_all steps) old new start (run_did commits repairs applies steps old new ran) c left in
          let then : Has denotes edited o (earlier ++ here.0) c = keeps_in o earlier (calls_of_all steps) old new start c here.0 here.1 in
          let rest : (known : List (Past W)) × LivesKnown commits repairs applies runs known c e =
          lives_known_after runs c e o (earlier ++ here.0) next then in
          (here.0 ++ rest.0, (old, new, c, here.0, rest.0, refl, settled, ran, here.1, rest.1))

      pub lives_known_lem : (runs : List (List (Step W))) (d e : Sectors) (o : Option L) → denotes d o
          → Lives commits repairs applies runs d e
          → (known : List (Past W)) × LivesKnown commits repairs applies runs known d e
      lives_known_lem runs d e o is lives = lives_known_after runs d e o [] lives (o, is, refl)

-- a crash since one call of the device, where nothing was pending before it and the call leaves no other disk
left_since : (old new : Told) → Settled old old.seen → Elapses old new → ((c : Sectors) → MayLeave new c → c ≡ old.seen) → (c : Sectors)
    → IsLeftBy old new c → c ≡ old.seen
left_since old new settled time now c left = ⊎_elim
    (λ at. ⊎_elim (λ before. settled_leaves old old.seen settled c before) (λ none. absurd none)
    (subst (λ (more : List Moment). LeftBy more c) (append_cancel_left old.past at.0 (now_of old ∷ []) (sym at.1 ∙ time)) at.2))
    (λ may. now c may)
    left

left_by_failed : (old new : Told) → Settled old old.seen → FailedFlush old new → (c : Sectors) → MayLeave new c → c ≡ old.seen
left_by_failed old new settled failed c left = settled_leaves old old.seen settled c (record {
  same_count = left.same_count ∙ failed.same_count;
  each = λ k lt. failed.no_more k (sector c k) lt (left.each k (omega (arith, lt, failed.same_count)));
})

-- a flush, done or failed, of a disk on which nothing is pending
pub only_flushes_lem : (old new : Told) → Settled old old.seen → Flushed old new ⊎ FailedFlush old new → OnlyFlushes old new
only_flushes_lem old new settled (inl done) = record {
  called = inl done;
  seen = done.seen;
  left = left_since old new settled done.time
      (λ c may. settled_leaves new old.seen (record { seen = done.seen; durable = done.durable; pending = done.pending }) c may);
}
only_flushes_lem old new settled (inr failed) = record {
  called = inr failed;
  seen = failed.seen;
  left = left_since old new settled failed.time (left_by_failed old new settled failed);
}

-- a session whose batches are changes of another kind
pub session_map : {V W : Type 0} (f : V → W) (commits : W → Result Unit CommitError → Told → Told → Type 0) (ws : List V) (rs : List Reply)
    (old new : Told) → Session (λ w. commits (f w)) ws rs old new → Session commits (map f ws) rs old new
session_map f commits [] [] old new same = same
session_map f commits [] (r ∷ rs) old new none = absurd none
session_map f commits (w ∷ ws) [] old new none = absurd none
session_map f commits (w ∷ ws) (reply.NotTried ∷ rs) old new rest = session_map f commits ws rs old new rest
session_map f commits (w ∷ ws) (reply.Done ∷ rs) old new (result, mid, is, did, rest) =
    (result, mid, is, did, session_map f commits ws rs mid new rest)
session_map f commits (w ∷ ws) (reply.Refused e ∷ rs) old new (result, mid, is, did, rest) =
    (result, mid, is, did, session_map f commits ws rs mid new rest)
session_map f commits (w ∷ ws) (reply.Fault fault ∷ rs) old new (result, mid, is, did, rest) =
    (result, mid, is, did, session_map f commits ws rs mid new rest)
