-- The sectors of a trace.
use Rattle.std.specs.Prelude.{ℕ, ◌≡◌, ◌<◌, ◌≤◌, ◌+◌, List, [], ◌∷◌, ◌++◌, take, drop, min, max, nat_lt, if◌then◌else◌}
use Rattle.pt_recover.specs.declared.trace.TracedRun.{TracedRun}
use Rattle.pt_recover.specs.declared.trace.Order.{Order}
use Rattle.pt_recover.specs.declared.trace.Order.TheVariants.{Below, Above, Touching}

-- from the lower first to the higher last
abbrev pub hull : TracedRun → TracedRun → TracedRun
hull x r = record { first = min x.first r.first; last = max x.last r.last }

-- runs in order with one more among them, which takes in those that it touches
unfoldable pub joined : TracedRun → List TracedRun → List TracedRun
joined x [] = x ∷ []
joined x (r ∷ rs) =
    if nat_lt (r.last + 1) x.first then r ∷ joined x rs else (if nat_lt (x.last + 1) r.first then x ∷ r ∷ rs else joined (hull x r) rs)

-- what stands before a place, and what joining from there on gives
abbrev pub StandsBefore : List TracedRun → List TracedRun → ℕ → TracedRun → Type 0
StandsBefore whole xs at x = take at xs ++ joined x (drop at xs) ≡ whole

-- where a run stands to another: all below with a gap, all above with one, or touching it
abbrev pub StandsAs : TracedRun → TracedRun → Order → Type 0
StandsAs r x Below = r.last + 1 < x.first
StandsAs r x Above = (x.first ≤ r.last + 1) × (x.last + 1 < r.first)
StandsAs r x Touching = (x.first ≤ r.last + 1) × (r.first ≤ x.last + 1)
