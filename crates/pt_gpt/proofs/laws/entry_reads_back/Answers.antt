use Rattle.std.specs.Prelude.{Some}
use Rattle.pt_gpt.proofs.Terms.{entry_same}
use Rattle.pt_gpt.proofs.laws.entry_reads_back.Goals as goal

pub returns : goal.returns
returns c =
    entry_same c.decode_entry.result (Some c.args.entry.now) c.encode_entry.result c.decode_entry.ensures
    (c.encode_entry.ensures.used c.requires)
