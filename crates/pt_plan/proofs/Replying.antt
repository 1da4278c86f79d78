-- A session, one batch more.
use Rattle.std.proofs.Common.{◌≡◌, ◌∙◌, ℕ, zero, suc, ◌+◌, ◌<◌, List, [], ◌∷◌, ◌++◌, length, map, take, get_or, Bool, true, false, Result}
use Rattle.std.proofs.Common.{Ok, Err, refl, sym, ap, subst, append_assoc, add-one, arith}
use Rattle.pt_sector.specs.Device.{Told}
use Rattle.pt_sector.specs.declared.disk.Fault.{Fault}
use Rattle.pt_guid.specs.declared.guid.Guid.{Guid}
use Rattle.pt_words.specs.declared.word.Edit.{Edit as Word}
use Rattle.pt_plan.specs.Batches.{Words}
use Rattle.pt_plan.specs.inner.Sessions.{Replied, Tried}
use Rattle.pt_plan.proofs.RunsLemmas.{Replies}
use Rattle.pt_plan.specs.Sessions.{NoneTried, AreReplies, faults_in, Session}
use Rattle.pt_plan.specs.declared.error.CommitError.{CommitError}
use Rattle.pt_plan.specs.declared.error.CommitError.TheVariants.{NoTable, Edit, Plan, Check, Device, Memory}
use Rattle.pt_plan.specs.declared.runs.sessions.Reply.{Reply}
use Rattle.pt_plan.specs.declared.runs.sessions.Reply.TheVariants as reply

pub mapped_next : {X Y : Type 0} (f : X → Y) (xs : List X) (i : ℕ) (x : X) → i < length xs → x ≡ get_or xs i x
    → map f (take (i + 1) xs) ≡ map f (take i xs) ++ f x ∷ []
mapped_next f [] i x lt is = absurd (omega (arith, lt))
mapped_next f (y ∷ xs) zero x lt is = ap (λ (z : _). f z ∷ []) (sym is)
mapped_next f (y ∷ xs) (suc i) x lt is =
    rw add-one (rw add-one at (ap (λ (l : List _). f y ∷ l) (mapped_next f xs i x (omega (arith, lt)) is)))

words_of : List Word → List Guid → Words
words_of edits guids = record { edits = edits; guids = guids }

pub words_are : (edits given : List Word) (guids fresh : List Guid) → edits ≡ given → guids ≡ fresh
    → ◌≡◌ {A = Words} (record { edits = edits; guids = guids }) (record { edits = given; guids = fresh })
unfolding words_of
words_are edits given guids fresh e g =
    subst (λ (x : List Word). words_of edits guids ≡ words_of x fresh) e (ap (λ (y : List Guid). words_of edits y) g)

pub replies_on : {W : Type 0} (ws : List W) (rs : List Reply) (w : W) (r : Reply) (before flag last : Bool)
    → Replies before ws rs flag → Replied flag r last → Replies before (ws ++ w ∷ []) (rs ++ r ∷ []) last
replies_on [] [] w r before flag last same one = (last, subst (λ (f : Bool). Replied f r last) same one, refl)
replies_on [] (s ∷ rs) w r before flag last none one = absurd none
replies_on (v ∷ ws) [] w r before flag last none one = absurd none
replies_on (v ∷ ws) (s ∷ rs) w r before flag last (next, did, rest) one = (next, did, replies_on ws rs w r next flag last rest one)

none_tried : {W : Type 0} (ws : List W) (rs : List Reply) (last : Bool) → Replies true ws rs last → NoneTried ws rs
none_tried [] [] last same = tt
none_tried [] (r ∷ rs) last none = absurd none
none_tried (w ∷ ws) [] last none = absurd none
none_tried (w ∷ ws) (reply.NotTried ∷ rs) last (next, is, rest) = none_tried ws rs last (subst (λ (f : Bool). Replies f ws rs last) is rest)
none_tried (w ∷ ws) (reply.Done ∷ rs) last (next, none, rest) = absurd none
none_tried (w ∷ ws) (reply.Refused e ∷ rs) last (next, none, rest) = absurd none
none_tried (w ∷ ws) (reply.Fault fault ∷ rs) last (next, none, rest) = absurd none

pub are_replies : {W : Type 0} (ws : List W) (rs : List Reply) (last : Bool) → Replies false ws rs last → AreReplies ws rs
are_replies [] [] last same = tt
are_replies [] (r ∷ rs) last none = absurd none
are_replies (w ∷ ws) [] last none = absurd none
are_replies (w ∷ ws) (reply.Done ∷ rs) last (next, is, rest) = are_replies ws rs last (subst (λ (f : Bool). Replies f ws rs last) is rest)
are_replies (w ∷ ws) (reply.Refused (NoTable e) ∷ rs) last (next, is, rest) =
    are_replies ws rs last (subst (λ (f : Bool). Replies f ws rs last) is rest)
are_replies (w ∷ ws) (reply.Refused (Edit e) ∷ rs) last (next, is, rest) =
    are_replies ws rs last (subst (λ (f : Bool). Replies f ws rs last) is rest)
are_replies (w ∷ ws) (reply.Refused (Plan e) ∷ rs) last (next, is, rest) =
    are_replies ws rs last (subst (λ (f : Bool). Replies f ws rs last) is rest)
are_replies (w ∷ ws) (reply.Refused (Check e) ∷ rs) last (next, is, rest) =
    are_replies ws rs last (subst (λ (f : Bool). Replies f ws rs last) is rest)
are_replies (w ∷ ws) (reply.Refused (Device e) ∷ rs) last (next, none, rest) = absurd none
are_replies (w ∷ ws) (reply.Refused Memory ∷ rs) last (next, is, rest) =
    are_replies ws rs last (subst (λ (f : Bool). Replies f ws rs last) is rest)
are_replies (w ∷ ws) (reply.Fault fault ∷ rs) last (next, is, rest) =
    none_tried ws rs last (subst (λ (f : Bool). Replies f ws rs last) is rest)
are_replies (w ∷ ws) (reply.NotTried ∷ rs) last (next, none, rest) = absurd none

faults_more : (rs : List Reply) (r : Reply) → faults_in (rs ++ r ∷ []) ≡ faults_in rs ++ faults_in (r ∷ [])
faults_more [] r = refl
faults_more (reply.Done ∷ rs) r = faults_more rs r
faults_more (reply.Refused e ∷ rs) r = faults_more rs r
faults_more (reply.Fault fault ∷ rs) r = ap (λ (l : List Fault). fault ∷ l) (faults_more rs r)
faults_more (reply.NotTried ∷ rs) r = faults_more rs r

pub blames_on : (rs : List Reply) (r : Reply) (old mid new : List Fault) → mid ≡ old ++ faults_in rs → new ≡ mid ++ faults_in (r ∷ [])
    → new ≡ old ++ faults_in (rs ++ r ∷ [])
blames_on rs r old mid new so_far one = one ∙ ap (λ (l : List Fault). l ++ faults_in (r ∷ [])) so_far
    ∙ append_assoc old (faults_in rs) (faults_in (r ∷ [])) ∙ ap (λ (l : List Fault). old ++ l) (sym (faults_more rs r))

module _ {W : Type 0} (commits : W → Result Unit CommitError → Told → Told → Type 0) where
  session_of : (w : W) (r : Reply) (before next : Bool) (old new : Told) → Replied before r next → Tried commits w r old new
      → Session commits (w ∷ []) (r ∷ []) old new
  session_of w reply.Done before next old new is did = (Ok tt, new, refl, did, refl)
  session_of w (reply.Refused (NoTable e)) before next old new is did = (Err (NoTable e), new, refl, did, refl)
  session_of w (reply.Refused (Edit e)) before next old new is did = (Err (Edit e), new, refl, did, refl)
  session_of w (reply.Refused (Plan e)) before next old new is did = (Err (Plan e), new, refl, did, refl)
  session_of w (reply.Refused (Check e)) before next old new is did = (Err (Check e), new, refl, did, refl)
  session_of w (reply.Refused (Device e)) false next old new none did = absurd none
  session_of w (reply.Refused (Device e)) true next old new none did = absurd none
  session_of w (reply.Refused Memory) before next old new is did = (Err Memory, new, refl, did, refl)
  session_of w (reply.Fault fault) before next old new is did = (Err (Device fault), new, refl, did, refl)
  session_of w reply.NotTried before next old new is same = same

  session_more : (ws : List W) (rs : List Reply) (w : W) (r : Reply) (old mid new : Told)
      → Session commits ws rs old mid → Session commits (w ∷ []) (r ∷ []) mid new → Session commits (ws ++ w ∷ []) (rs ++ r ∷ []) old new
  session_more [] [] w r old mid new same one = subst (λ (x : Told). Session commits (w ∷ []) (r ∷ []) x new) same one
  session_more [] (s ∷ rs) w r old mid new none one = absurd none
  session_more (v ∷ ws) [] w r old mid new none one = absurd none
  session_more (v ∷ ws) (reply.NotTried ∷ rs) w r old mid new so_far one = session_more ws rs w r old mid new so_far one
  session_more (v ∷ ws) (reply.Done ∷ rs) w r old mid new (result, next, is, did, rest) one =
      (result, next, is, did, session_more ws rs w r next mid new rest one)
  session_more (v ∷ ws) (reply.Refused e ∷ rs) w r old mid new (result, next, is, did, rest) one =
      (result, next, is, did, session_more ws rs w r next mid new rest one)
  session_more (v ∷ ws) (reply.Fault fault ∷ rs) w r old mid new (result, next, is, did, rest) one =
      (result, next, is, did, session_more ws rs w r next mid new rest one)

  pub session_on : (ws : List W) (rs : List Reply) (w : W) (r : Reply) (before next : Bool) (old mid new : Told)
      → Session commits ws rs old mid → Replied before r next → Tried commits w r mid new
      → Session commits (ws ++ w ∷ []) (rs ++ r ∷ []) old new
  session_on ws rs w r before next old mid new so_far is did =
      session_more ws rs w r old mid new so_far (session_of w r before next mid new is did)
