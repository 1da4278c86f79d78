-- What a search finds, as places and owners.
use Rattle.std.proofs.Common.{◌+◌, ◌-◌, ◌≤◌, ℕ, refl, subst, arith}
use Rattle.pt_sector.specs.declared.address.Lba.{Lba}
use Rattle.pt_members.specs.declared.layout.Layout.{Layout}
use Rattle.pt_path.specs.declared.path.Path.{Path}
use Rattle.pt_members.specs.declared.member.Member.{Member}
use Rattle.pt_members.specs.declared.search.Wanted.TheVariants.{LeafWith, LeafNamed, SliceWith}
use Rattle.pt_path.specs.Paths.{rank}
use Rattle.pt_members.specs.Tables.{Owns, IsPlaceOf, IsInSlice, NoneBefore}
use Rattle.pt_members.specs.Rows.{IsMember}
use Rattle.pt_members.specs.inner.Tables.{IsAsWanted, IsFirstWanted}

pub place_found : (b : ℕ) (o : Layout) (p : Path) (k : ℕ) (m : Member) → IsMember b o m → IsAsWanted (LeafNamed p k) m
    → IsPlaceOf b o p k (m.first + k)
place_found b o p k m at is =
    record { leaf = m; is_member = at; is_leaf = is.1; path = is.2; exists = is.0; within = is.3; place = refl }

pub no_place : (b : ℕ) (o : Layout) (p : Path) (k s : ℕ) → ((m : Member) → IsMember b o m → ¬ IsAsWanted (LeafNamed p k) m)
    → ¬ IsPlaceOf b o p k s
no_place b o p k s none is = none is.leaf is.is_member (is.exists, is.is_leaf, is.path, is.within)

pub slice_found : (b : ℕ) (o : Layout) (lba : Lba) (m : Member) → IsMember b o m → IsAsWanted (SliceWith lba) m → IsInSlice b o lba.0
slice_found b o lba m at is = record { slice = m; is_member = at; is_slice = is.1; exists = is.0; holds = is.2 }

pub no_slice : (b : ℕ) (o : Layout) (lba : Lba) → ((m : Member) → IsMember b o m → ¬ IsAsWanted (SliceWith lba) m) → ¬ IsInSlice b o lba.0
no_slice b o lba none is = none is.slice is.is_member (is.exists, is.is_slice, is.holds)

pub owns_found : (b : ℕ) (o : Layout) (lba : Lba) (m : Member) → IsMember b o m → IsAsWanted (LeafWith lba) m → Owns b o lba.0
owns_found b o lba m at is = record { leaf = m; is_member = at; is_leaf = is.1; exists = is.0; holds = is.2 }

pub owns_none : (b : ℕ) (o : Layout) (lba : Lba) → ((m : Member) → IsMember b o m → ¬ IsAsWanted (LeafWith lba) m) → ¬ Owns b o lba.0
owns_none b o lba none is = none is.leaf is.is_member (is.exists, is.is_leaf, is.holds)

-- the first leaf that has a sector has it in a place, and no leaf before it has it
pub home_found : (b : ℕ) (o : Layout) (lba : Lba) (m : Member) → IsFirstWanted (IsMember b o) (LeafWith lba) m
    → (k : ℕ) × IsPlaceOf b o m.path k lba.0 × NoneBefore b o m.path lba.0
home_found b o lba m (at, is, first) = (
  lba.0 - m.first,
  record {
    leaf = m;
    is_member = at;
    is_leaf = is.1;
    path = refl;
    exists = is.0;
    within = omega (arith, is.2.0, is.2.1);
    place = omega (arith, is.2.0);
  },
  none_before,
) where
  none_before : (q : Path) (k : ℕ) → IsPlaceOf b o q k lba.0 → rank m.path ≤ rank q
  none_before q k here =
      subst (λ (p : Path). rank m.path ≤ rank p) here.path (first here.leaf here.is_member
      (here.exists, here.is_leaf, (omega (arith, here.place), omega (arith, here.place, here.within))))
