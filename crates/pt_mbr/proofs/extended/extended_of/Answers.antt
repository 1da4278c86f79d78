use Rattle.std.proofs.Common.{Option, ap, ◌∙◌, arith}
use Rattle.std.specs.Prelude.{option_to_list}
use Rattle.pt_mbr.specs.declared.record.Record.{Record}
use Rattle.pt_mbr.proofs.Lone.{extended_end}
use Rattle.pt_mbr.proofs.extended.extended_of.Goals as goal

pub returns-in-Some-found-2 : goal.returns-in-Some-found-2
returns-in-Some-found-2 c =
    extended_end c.args.records.now c.loop-k.k (option_to_list c.loop-k.found) (omega (arith, c.told-records)) c.loop-k.invariant
    ∙ ap (λ (o : Option Record). option_to_list o) c.in-Some-found-2.is

pub returns-in-None : goal.returns-in-None
returns-in-None c =
    extended_end c.args.records.now c.loop-k.k (option_to_list c.loop-k.found) (omega (arith, c.told-records)) c.loop-k.invariant
    ∙ ap (λ (o : Option Record). option_to_list o) c.in-None.is
