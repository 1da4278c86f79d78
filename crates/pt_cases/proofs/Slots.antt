-- Where the records, the entries and the logical partitions of a sound layout lie.
use Rattle.std.specs.Prelude.{◌≡◌, ◌++◌, [], ℕ, List, Contains, flat_map}
use Rattle.std.proofs.Common.{sym, subst, arith, inl, inr}
use Rattle.std.proofs.lemmas.List.Elements.{Contains-append_left}
use Rattle.pt_members.specs.declared.layout.Layout.{Layout}
use Rattle.pt_members.specs.declared.member.Kind.TheVariants.{Extended}
use Rattle.pt_members.specs.declared.member.Member.{Member}
use Rattle.pt_members.specs.Members.{Group, group_of, groups_of, group_in, top_group, strays, present, slots, tops, logicals}
use Rattle.pt_members.proofs.Standing.{AtPlace}
use Rattle.pt_layout.specs.Sound.{LiesInside, IsMemberOf, Sound}
use Rattle.pt_layout.proofs.OneHome.{holder}
use Rattle.pt_members.proofs.Grouped.{present_split, place_left, to_present, to_flat, contains_head, contains_tail, top_members}
use Rattle.pt_members.proofs.Grouped.{extended_group, held_by_extended, extended_group_is}

abbrev the_top : ℕ → Layout → Group
the_top b o = top_group b o.sectors o.body

-- the groups behind the top one
abbrev behind : ℕ → Layout → List Group
behind b o = flat_map (group_in b o) (present (slots b o.body)) ++ strays b o.body

-- a record or an entry is of the top group
pub top_of : (b : ℕ) (o : Layout) (m : Member) → AtPlace (tops b o.body) m → IsMemberOf b o (top_group b o.sectors o.body) m
unfolding groups_of
top_of b o m at = record {
  stands = contains_head (the_top b o) (behind b o);
  sibling = subst (λ (l : List Member). Contains l m) (sym (top_members b o.sectors o.body)) (to_present (tops b o.body) m at);
}

-- a logical partition is of the group of each extended record
pub logical_of : (b : ℕ) (o : Layout) (e m : Member) → AtPlace (tops b o.body) e → e.kind ≡ Extended → AtPlace (logicals b o.body) m
    → IsMemberOf b o (extended_group b o e) m
unfolding groups_of
logical_of b o e m at is part =
    let held : Contains (group_in b o e) (extended_group b o e) =
    subst (λ (l : List Group). Contains l (extended_group b o e)) (sym (held_by_extended b o e is))
    (contains_head (extended_group b o e) []) in
    let slot = to_present (slots b o.body) e (place_left (tops b o.body) (logicals b o.body) e at) in
    record {
      stands = contains_tail (the_top b o) (behind b o) (extended_group b o e)
          (Contains-append_left (flat_map (group_in b o) (present (slots b o.body))) (strays b o.body) (extended_group b o e)
          (to_flat (group_in b o) (present (slots b o.body)) e (extended_group b o e) slot held));
      sibling = subst (λ (g : Group). Contains g.members m) (sym (extended_group_is b o e)) (to_present (logicals b o.body) m part);
    }

-- so it lies in that record's sectors
pub logical_inside : (b : ℕ) (o : Layout) (e m : Member) → Sound b o → AtPlace (tops b o.body) e → e.kind ≡ Extended
    → AtPlace (logicals b o.body) m → LiesInside (group_of e.first e.last (present (logicals b o.body))) m
logical_inside b o e m sound at is part =
    subst (λ (g : Group). LiesInside g m) (extended_group_is b o e) (sound.inside (extended_group b o e) m (logical_of b o e m at is part))

-- what stands in a slot of a sound layout has sectors, all of them usable on the disk
pub slot_usable_lem : (b : ℕ) (o : Layout) (m : Member) → Sound b o → AtPlace (slots b o.body) m → LiesInside
    (top_group b o.sectors o.body) m
slot_usable_lem b o m sound at =
    elim (present_split (tops b o.body) (logicals b o.body) m at) as (λ _. LiesInside (top_group b o.sectors o.body) m) [
      | inl top ↦ sound.inside (top_group b o.sectors o.body) m (top_of b o m top)
      | inr logical ↦ (
          let e = holder b o m sound logical in
          let outer = sound.inside (top_group b o.sectors o.body) e.extended (top_of b o e.extended e.at_top) in
          let inner = logical_inside b o e.extended m sound e.at_top e.kind logical in
          record { exists = inner.exists; low = omega (arith, outer.low, inner.low); high = omega (arith, outer.high, inner.high) }
          )
    ]
