-- The type codes and their GUIDs.
use Rattle.std.specs.Prelude.{ℕ, List, [], ◌∷◌, ◌==◌, ◌*◌, map, Option, Some, None, if◌then◌else◌}
use Rattle.pt_guid.specs.Guids.{mixed}
use Rattle.pt_guid.specs.declared.guid.Guid.{Guid}

-- 516E7CB4-6ECF-11D6-8FF8-00022D09712B, the type of slices
abbrev pub freebsd : List ℕ
freebsd = 0x51 ∷ 0x6E ∷ 0x7C ∷ 0xB4 ∷ 0x6E ∷ 0xCF ∷ 0x11 ∷ 0xD6 ∷ 0x8F ∷ 0xF8 ∷ 0x00 ∷ 0x02 ∷ 0x2D ∷ 0x09 ∷ 0x71 ∷ 0x2B ∷ []

-- each code, with the bytes of its GUID in the order of the text: EFI system C12A7328-F81F-11D2-BA4B-00A0C93EC93B, Linux
-- filesystem 0FC63DAF-8483-4772-8E79-3D69D8477DE4, Linux swap 0657FD6D-A4AB-43C4-84E5-0933C84B4F4F, Microsoft basic data
-- EBD0A0A2-B9E5-4433-87C0-68B6B72699C7, FreeBSD, FreeBSD UFS 516E7CB6-6ECF-11D6-8FF8-00022D09712B
abbrev pub codes : List (ℕ × List ℕ)
codes =
    (0xEF00, 0xC1 ∷ 0x2A ∷ 0x73 ∷ 0x28 ∷ 0xF8 ∷ 0x1F ∷ 0x11 ∷ 0xD2 ∷ 0xBA ∷ 0x4B ∷ 0x00 ∷ 0xA0 ∷ 0xC9 ∷ 0x3E ∷ 0xC9 ∷ 0x3B ∷ [])
    ∷ (0x8300, 0x0F ∷ 0xC6 ∷ 0x3D ∷ 0xAF ∷ 0x84 ∷ 0x83 ∷ 0x47 ∷ 0x72 ∷ 0x8E ∷ 0x79 ∷ 0x3D ∷ 0x69 ∷ 0xD8 ∷ 0x47 ∷ 0x7D ∷ 0xE4 ∷ [])
    ∷ (0x8200, 0x06 ∷ 0x57 ∷ 0xFD ∷ 0x6D ∷ 0xA4 ∷ 0xAB ∷ 0x43 ∷ 0xC4 ∷ 0x84 ∷ 0xE5 ∷ 0x09 ∷ 0x33 ∷ 0xC8 ∷ 0x4B ∷ 0x4F ∷ 0x4F ∷ [])
    ∷ (0x0700, 0xEB ∷ 0xD0 ∷ 0xA0 ∷ 0xA2 ∷ 0xB9 ∷ 0xE5 ∷ 0x44 ∷ 0x33 ∷ 0x87 ∷ 0xC0 ∷ 0x68 ∷ 0xB6 ∷ 0xB7 ∷ 0x26 ∷ 0x99 ∷ 0xC7 ∷ [])
    ∷ (0xA500, freebsd)
    ∷ (0xA503, 0x51 ∷ 0x6E ∷ 0x7C ∷ 0xB6 ∷ 0x6E ∷ 0xCF ∷ 0x11 ∷ 0xD6 ∷ 0x8F ∷ 0xF8 ∷ 0x00 ∷ 0x02 ∷ 0x2D ∷ 0x09 ∷ 0x71 ∷ 0x2B ∷ [])
    ∷ []

-- a code with its type, as it is stored
abbrev pub row : ℕ × List ℕ → ℕ × Guid
row c = (c.0, record { 0 = mixed c.1 })

abbrev pub rows : List (ℕ × Guid)
rows = map row codes

-- the stored bytes of a code's type, by the first row of the code
abbrev pub type_in : List (ℕ × Guid) → ℕ → Option (List ℕ)
type_in [] code = None
type_in (r ∷ rs) code = if code == r.0 then Some r.1.0 else type_in rs code

abbrev pub type_of : ℕ → Option (List ℕ)
type_of code = type_in rows code

-- the type that an entry has where a record has this one (OSType): that of the code whose upper two digits it is, and 00
abbrev pub type_of_record : ℕ → Option (List ℕ)
type_of_record kind = type_of (kind * 256)
