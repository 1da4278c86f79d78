-- Which sectors are known, and which are wanted besides: what private contracts cite.
use Rattle.std.specs.Prelude.{◌≡◌, ℕ, List, ◌⊎◌, [], ◌∷◌, ◌++◌, All, Contains, nat_eq, true, false}
use Rattle.pt_sector.specs.Sectors.{Sectors}
use Rattle.pt_replay.specs.declared.view.View.{View}
use Rattle.pt_replay.specs.Wanted.{sectors_in, IsNew, AreWanted, IsSettled, GivesSectors, LacksRoom}
use Rattle.pt_replay.specs.Replies.{the_random_bytes, nothing, bad_argument}
use Rattle.pt_replay.specs.Given.{ArePlan, ToldOfRows, AreSomeEdits, AreGroups, ToldOfWords}
use Rattle.pt_replay.specs.declared.answers.Status.{Status}
use Rattle.pt_replay.specs.declared.answers.Status.TheVariants.{Done, No, Usage, Refused, NoTable, Device, Memory, Want, Room, WantOther}
use Rattle.pt_replay.specs.declared.answers.Reply.{Reply}
use Rattle.pt_replay.specs.declared.rows.WriteRow.{WriteRow}
use Rattle.std.specs.List.{IsDistinct, list_any}
use Rattle.pt_members.specs.Members.{IsPlace}
use Rattle.pt_members.specs.declared.layout.Slice.{Slice}
use Rattle.pt_recover.specs.declared.error.NoTable.{NoTable as Reason}
use Rattle.pt_recover.specs.declared.error.NoTable.TheVariants as reason

-- ## A disk of which some sectors are known.

-- these are the number of sectors of a view, its numbers and its sectors
pub record AreOf (b : ℕ) (v : View) (count : ℕ) (ns : List ℕ) (ks : Sectors) : Type 0 where
  pub count_is : count ≡ v.sectors
  pub numbers_are : ns ≡ v.numbers.now
  pub sectors_are : ks ≡ sectors_in b v

-- ## Which argument of a call is reported where it has no meaning.

-- nothing was asked: an argument has no meaning, which is reported, or memory was refused
abbrev pub IsUnasked : (Reply → Type 0) → Status → Reply → Type 0
IsUnasked told Done r = ⊥
IsUnasked told No r = ⊥
IsUnasked told Usage r = told r
IsUnasked told Refused r = ⊥
IsUnasked told NoTable r = ⊥
IsUnasked told Device r = ⊥
IsUnasked told Memory r = r ≡ nothing
IsUnasked told Want r = ⊥
IsUnasked told Room r = ⊥
IsUnasked told WantOther r = ⊥

-- the bytes are no words, and this is reported of them
abbrev pub NoWords : List ℕ → Reply → Type 0
NoWords words r = (¬ AreSomeEdits words) × ToldOfWords words r

-- the random bytes are no groups, and this is reported of them
abbrev pub NoGroups : List ℕ → Reply → Type 0
NoGroups drawn r = (¬ AreGroups drawn) × (r ≡ bad_argument the_random_bytes)

-- the rows are no plan, and this is reported of them
abbrev pub NoRows : ℕ → List WriteRow → List ℕ → Reply → Type 0
NoRows b rows bytes r = (¬ ArePlan b rows bytes) × ToldOfRows b rows bytes r

-- ## All sectors that are known to be wanted, at once.

-- of a disk of so many sectors, of which the sectors ks with the numbers ns are known
module _ (count : ℕ) (ns : List ℕ) (ks : Sectors) where
  -- these are the label places of the slices that aren't known, each of them, and none twice
  pub record AreUnknown (slices : List Slice) (list : List ℕ) : Type 0 where
    pub each : All (λ s. IsNew count ns ks s × IsPlace slices s) list
    pub once : IsDistinct nat_eq list
    pub all : (s : ℕ) → IsPlace slices s → IsNew count ns ks s → Contains list s

module _ (b count : ℕ) (ns : List ℕ) (ks d : Sectors) where
  -- these are wanted; where there are none, nothing is
  pub record ListsWanted (list : List ℕ) : Type 0 where
    pub wanted : (AreWanted b count ns ks d) list
    pub settled : list ≡ [] → (IsSettled b count ns ks d)

-- a sector is taken up where it is unknown and isn't there yet
abbrev pub TakesUp : Type 0 → ℕ → List ℕ → List ℕ → Type 0
TakesUp unknown s old new =
    ((new ≡ old ++ s ∷ []) × unknown × (list_any (λ t. nat_eq t s) old ≡ false))
    ⊎ ((new ≡ old) × ((¬ unknown) ⊎ (list_any (λ t. nat_eq t s) old ≡ true)))

-- the one sector whose read failed, or none of a disk that denotes nothing
abbrev pub IsAlone : Reason → List ℕ → Type 0
IsAlone (reason.Device at) list = list ≡ at.0 ∷ []
IsAlone reason.Memory list = ⊥
IsAlone why list = list ≡ []

-- a list is given, there is no room for it, or it is empty
abbrev pub GivesList : List ℕ → List ℕ → List ℕ → Status → Reply → Type 0
GivesList list old new Done r = (list ≡ []) × (r ≡ nothing) × (new ≡ old)
GivesList list old new No r = ⊥
GivesList list old new Usage r = ⊥
GivesList list old new Refused r = ⊥
GivesList list old new NoTable r = ⊥
GivesList list old new Device r = ⊥
GivesList list old new Memory r = ⊥
GivesList list old new Want r = GivesSectors list old new r
GivesList list old new Room r = LacksRoom list old new r
GivesList list old new WantOther r = ⊥
