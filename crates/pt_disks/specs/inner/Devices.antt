-- Block devices, and what uses them: what private contracts cite.
use Rattle.std.specs.Prelude.{◌≡◌, ℕ, List, ◌∷◌, ◌++◌, ◌+◌, ◌*◌, ◌/◌, ◌%◌, ◌<◌, ◌^◌, ◌≢◌, ◌⊎◌, ◌==◌, [], drop, Contains, slice_index}
use Rattle.std.specs.Prelude.{slice_index_or, IsSomeAnd}
use Rattle.std.specs.Fmt.{decimal}
use Rattle.pt_disks.specs.declared.numbers.DeviceNumber.{DeviceNumber}
use Rattle.std.specs.List.{slice_split}
use Rattle.pt_disks.specs.declared.uses.Mount.{Mount}
use Rattle.pt_disks.specs.declared.uses.Claim.{Claim}

-- ## Numbers of devices.

-- the text is the number, as 8:1: both parts in decimal digits without a zero in front, with a colon between them
pub record IsDeviceNumber (text : List ℕ) (d : DeviceNumber) : Type 0 where
  pub major_fits : d.major < 2 ^ 64
  pub minor_fits : d.minor < 2 ^ 64
  pub written : text ≡ decimal d.major ++ 58 ∷ decimal d.minor

-- the number in 64 bits, as stat(2) gives it: from the lowest bit on 8 of the minor part, 12 of the major part, 24 of the minor
-- part, 20 of the major part
pub record IsPacked (packed : ℕ) (d : DeviceNumber) : Type 0 where
  pub major_fits : d.major < 2 ^ 32
  pub minor_fits : d.minor < 2 ^ 32
  pub bits : packed ≡ d.minor % 2 ^ 8 + d.major % 2 ^ 12 * 2 ^ 8 + d.minor / 2 ^ 8 * 2 ^ 20 + d.major / 2 ^ 12 * 2 ^ 44

-- ## What the lines of the system's lists say: /proc/self/mountinfo and /proc/swaps.

-- the parts of a text between its spaces
abbrev pub parts : List ℕ → List (List ℕ)
parts text = slice_split (λ b. b == 32) text

abbrev pub IsSecond : List (List ℕ) → List ℕ → Type 0
IsSecond [] part = ⊥
IsSecond (first ∷ []) part = ⊥
IsSecond (first ∷ second ∷ rest) part = part ≡ second

-- the second part behind the first one that is a hyphen
abbrev pub IsSourceIn : List (List ℕ) → List ℕ → Type 0
IsSourceIn [] source = ⊥
IsSourceIn (part ∷ rest) source = ((part ≡ 45 ∷ []) × IsSecond rest source) ⊎ ((part ≢ 45 ∷ []) × IsSourceIn rest source)

-- a line of mountinfo: its third part is the device's number, its fifth part the place; options come from the sixth part on and end
-- with a hyphen, and behind it the file system's type and the source
pub record IsMount (line : List ℕ) (m : Mount) : Type 0 where
  pub device : IsDeviceNumber (slice_index_or (parts line) 2 []) m.device
  pub place : m.place.now ≡ slice_index_or (parts line) 4 []
  pub source : IsSourceIn (drop 5 (parts line)) m.source.now

-- a line of swaps: its first part is a path that begins with a slash
pub record IsSwap (line path : List ℕ) : Type 0 where
  pub first : path ≡ slice_index_or (parts line) 0 []
  pub slash : slice_index path 0 ≡ 47

-- it is on one of the devices, by the number in the list or by its path
abbrev pub IsOn : List DeviceNumber → Claim → Type 0
IsOn devices claim = IsSomeAnd claim.listed (Contains devices) ⊎ IsSomeAnd claim.node (Contains devices)
