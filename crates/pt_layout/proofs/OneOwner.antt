-- In a sound layout a sector has one owner at most.
use Rattle.std.specs.Prelude.{◌≡◌, ℕ}
use Rattle.std.proofs.Common.{refl, ap, arith}
use Rattle.pt_members.specs.declared.layout.Layout.{Layout}
use Rattle.pt_members.specs.declared.ownership.Owner.{Owner}
use Rattle.pt_members.specs.declared.ownership.Owner.TheVariants.{Partition, Table, Reserved, Free}
use Rattle.pt_path.specs.declared.path.Path.{Path}
use Rattle.pt_members.specs.Tables.{Owns, IsPlaceOf, OwnerIs}
use Rattle.pt_layout.specs.Sound.{Sound}
use Rattle.pt_layout.proofs.Terms.{place_is_one_lem}

place_owns : (b : ℕ) (o : Layout) (p : Path) (k s : ℕ) → IsPlaceOf b o p k s → Owns b o s
place_owns b o p k s is = record {
  leaf = is.leaf;
  is_member = is.is_member;
  is_leaf = is.is_leaf;
  exists = is.exists;
  holds = (omega (arith, is.place), omega (arith, is.place, is.within));
}

pub owner_one : (b : ℕ) (o : Layout) (s : ℕ) (x y : Owner) → Sound b o → OwnerIs b o s x → OwnerIs b o s y → x ≡ y
owner_one b o s (Partition p) (Partition q) sound x y = ap Partition (place_is_one_lem b o p q x.0 y.0 s sound x.1 y.1).0
owner_one b o s (Partition p) Table sound x y = absurd (y.0 (place_owns b o p x.0 s x.1))
owner_one b o s (Partition p) Reserved sound x y = absurd (y.0 (place_owns b o p x.0 s x.1))
owner_one b o s (Partition p) Free sound x y = absurd (y.0 (place_owns b o p x.0 s x.1))
owner_one b o s Table (Partition q) sound x y = absurd (x.0 (place_owns b o q y.0 s y.1))
owner_one b o s Table Table sound x y = refl
owner_one b o s Table Reserved sound x y = absurd (y.1 x.1)
owner_one b o s Table Free sound x y = absurd (y.1 x.1)
owner_one b o s Reserved (Partition q) sound x y = absurd (x.0 (place_owns b o q y.0 s y.1))
owner_one b o s Reserved Table sound x y = absurd (x.1 y.1)
owner_one b o s Reserved Reserved sound x y = refl
owner_one b o s Reserved Free sound x y = absurd (y.2 x.2)
owner_one b o s Free (Partition q) sound x y = absurd (x.0 (place_owns b o q y.0 s y.1))
owner_one b o s Free Table sound x y = absurd (x.1 y.1)
owner_one b o s Free Reserved sound x y = absurd (x.2 y.2)
owner_one b o s Free Free sound x y = refl
