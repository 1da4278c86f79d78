use Rattle.std.proofs.Common.{◌≡◌, ◌+◌, ◌-◌, ℕ, subst, arith}
use Rattle.pt_replay.proofs.FirstPlaces.{LeadsFrom, leads_end, leads_more}
use Rattle.pt_replay.proofs.index.places_of.Goals as goal

pub places-init : goal.places-init
places-init c = record { within = omega arith; leads = leads_end c.args.numbers.now c.new-places.result c.new-places.ensures.empty }

pub places-preserved : goal.places-preserved
places-preserved c =
    let one : c.places.k ≡ c.places.k - 1 + 1 = omega arith in
    record {
      within = omega arith;
      leads = leads_more c.args.numbers.now (c.places.k - 1) _ c.places.places c.insert.new.self (omega arith)
          (subst (λ (k : ℕ). LeadsFrom k c.args.numbers.now c.places.places) one c.places.invariant.leads)
          c.in_ok-insert.ensures.updates;
    }

pub returns : goal.returns
returns c =
    let none : c.places.k ≡ 0 = omega arith in
    subst (λ (k : ℕ). LeadsFrom k c.args.numbers.now c.places.places) none c.places.invariant.leads
