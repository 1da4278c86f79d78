-- Sizes in binary units.
use Rattle.std.specs.Prelude.{ℕ, ◌+◌, ◌-◌, ◌*◌, ◌/◌, ◌%◌, ◌^◌, List, ◌++◌, ◌&&◌, if◌then◌else◌, codes, decimal, nat_eq, nat_le, nat_lt}

-- what stands between a number and its unit: where the number isn't whole a point and one digit, rounded down; and a space
abbrev pub tenth : ℕ → ℕ → List ℕ
tenth rest unit = if nat_eq rest 0 then codes " " else codes "." ++ (decimal (rest * 10 / unit) ++ codes " ")

-- n bytes in a unit
abbrev pub scaled : ℕ → ℕ → List ℕ → List ℕ
scaled n unit name = decimal (n / unit) ++ (tenth (n % unit) unit ++ name)

-- in the greatest unit of which there is one at least
abbrev pub size_text : ℕ → List ℕ
size_text n =
    if nat_lt n (2 ^ 10) then scaled n 1 (codes "B")
    else if nat_lt n (2 ^ 20) then scaled n (2 ^ 10) (codes "KiB")
    else if nat_lt n (2 ^ 30) then scaled n (2 ^ 20) (codes "MiB")
    else if nat_lt n (2 ^ 40) then scaled n (2 ^ 30) (codes "GiB")
    else if nat_lt n (2 ^ 50) then scaled n (2 ^ 40) (codes "TiB")
    else if nat_lt n (2 ^ 60) then scaled n (2 ^ 50) (codes "PiB")
    else scaled n (2 ^ 60) (codes "EiB")

-- the size of the sectors from the first to the last, of b bytes each, or a hyphen where no disk has them
abbrev pub count_text : ℕ → ℕ → ℕ → List ℕ
count_text b first last =
    if nat_le first last && nat_lt last (2 ^ 64) then size_text ((last - first + 1) * b) else codes "-"
