-- No partition of a GPT without labels owns a sector outside those from the first to the last of its entries.
use Rattle.std.proofs.Common.{◌≡◌, ◌<◌, ◌≤◌, ◌+◌, ◌^◌, ◌∙◌, ℕ, List, [], ◌∷◌, get_or, length, Option, Some, None}
use Rattle.std.proofs.Common.{refl, sym, ap, subst, arith, inl, inr}
use Rattle.std.specs.Prelude.{IfSome, option_map}
use Rattle.std.proofs.lemmas.Bool.{cases_lt}
use Rattle.pt_gpt.specs.declared.entry.Entry.{Entry}
use Rattle.pt_gpt.specs.declared.table.Table.{Table}
use Rattle.pt_members.specs.declared.layout.Layout.{Layout}
use Rattle.pt_members.specs.declared.layout.Body.{Body}
use Rattle.pt_members.specs.declared.layout.Body.TheVariants.{Gpt}
use Rattle.pt_members.specs.declared.layout.Labelled.{Labelled}
use Rattle.pt_members.specs.declared.member.Member.{Member}
use Rattle.pt_members.specs.declared.owned.Reach.{Reach}
use Rattle.pt_members.specs.Tables.{Owns, IsWithin}
use Rattle.pt_members.specs.inner.Tables.{Spans, AllSpanned}
use Rattle.pt_members.specs.Members.{Holds, entry_member, label_of, slots}
use Rattle.pt_members.proofs.ByPlace.{gpt_at, parts_none, within_gpt}
use Rattle.pt_members.proofs.ByRows.{member_place}
use Rattle.pt_members.proofs.Standing.{AtPlace, IsNear}

-- an entry that the reach spans, or spanned before it grew
pub spans_on : (q r : Reach) (e : Option Entry) → r.low ≤ q.low → q.high ≤ r.high → IfSome e (Spans q) → IfSome e (Spans r)
spans_on q r None low high is = tt
spans_on q r (Some e) low high is = (omega (arith, is.0), omega (arith, is.1))

pub spanned_more : (q r : Reach) (es : List (Option Entry)) (k : ℕ) → r.low ≤ q.low → q.high ≤ r.high
    → ((j : ℕ) → j < k → IfSome (get_or es j None) (Spans q)) → IfSome (get_or es k None) (Spans r)
    → (j : ℕ) → j < k + 1 → IfSome (get_or es j None) (Spans r)
spanned_more q r es k low high before here j lt = elim (cases_lt j k) as (λ _. IfSome (get_or es j None) (Spans r)) [
  | inl less ↦ spans_on q r (get_or es j None) low high (before j less)
  | inr most ↦ subst (λ (i : ℕ). IfSome (get_or es i None) (Spans r)) (let same : k ≡ j = omega (arith, lt, most) in same) here
]

-- the reach spans the sectors of an entry's partition
spanned : (b n : ℕ) (r : Reach) (e : Option Entry) (m : Member) (s : ℕ) → IfSome e (Spans r) → option_map (entry_member b n) e ≡ Some m
    → Holds m s → IsWithin r s
spanned b n r None m s is at holds = absurd cc
spanned b n r (Some e) m s is at holds =
    let same : entry_member b n e ≡ m = cc in
    let low : e.first ≡ m.first = ap (λ (z : Member). z.first) same in
    let high : e.last ≡ m.last = ap (λ (z : Member). z.last) same in
    (omega (arith, is.0, low, holds.0), omega (arith, is.1, high, holds.1))

-- a disk without labels has none for any slice
no_label : (labels : List Labelled) (n : ℕ) → length labels ≡ 0 → label_of labels n ≡ None
unfolding label_of
no_label [] n empty = refl
no_label (l ∷ ls) n empty = absurd (omega (arith, empty))

reached_near : (b : ℕ) (o : Layout) (t : Table) (r : Reach) (s : ℕ) (m x : Member) → length o.labels ≡ 0 → o.body ≡ Gpt t
    → AllSpanned r t.entries → AtPlace (slots b o.body) m → IsNear o m x → Holds x s → IsWithin r s
reached_near b o t r s m x empty is all at (inr part) holds =
    absurd (omega (arith, part.1.1, parts_none (label_of o.labels m.path.number) m (no_label o.labels m.path.number empty)))
reached_near b o t r s m x empty is all (k, lt, at) (inl same) holds =
    let long : k < length t.entries = within_gpt b o.body t k is lt in
    spanned b (1 + k) r (get_or t.entries k None) m s (all k long)
    (sym (gpt_at b t k long) ∙ subst (λ (y : Body). get_or (slots b y) k None ≡ Some m) is at)
    (subst (λ (z : Member). Holds z s) same holds)

pub reached : (b : ℕ) (o : Layout) (t : Table) (r : Reach) (s : ℕ) → length o.labels ≡ 0 → o.body ≡ Gpt t → AllSpanned r t.entries
    → Owns b o s → IsWithin r s
reached b o t r s empty is all owned =
    let place = member_place b o owned.leaf owned.is_member in
    reached_near b o t r s place.0 owned.leaf empty is all place.1 place.2 owned.holds

-- a sector that is owned has a number below 2^63
pub owned_small : (b : ℕ) (o : Layout) (s : ℕ) → Owns b o s → s < 2 ^ 63
owned_small b o s owned = omega (arith, owned.exists.1, owned.holds.1)
