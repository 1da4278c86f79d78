use Rattle.pt_answers.proofs.TextsRead.{not_long, not_read, text_read}
use Rattle.pt_answers.proofs.files.text_in.Goals as goal

pub returns-in-Ok-text_of : goal.returns-in-Ok-text_of
returns-in-Ok-text_of g c = record {
  reads = text_read c.args.of (g.T.Read.remaining c.args.file) c.in-Ok.bytes.items c.in-Ok-text_of.text c.in-Ok.ensures.ok
      c.in-Ok-text_of.ensures.ok c.in-Ok-text_of.ensures.short;
  short = not_long c.in-Ok.bytes.items c.in-Ok-text_of.text c.in-Ok-text_of.ensures.ok c.in-Ok-text_of.ensures.short;
}

pub returns-in-Ok-clause-reads : goal.returns-in-Ok-clause-reads
returns-in-Ok-clause-reads g c =
    not_read c.args.of (g.T.Read.remaining c.args.file) c.in-Ok.bytes.items c.in-Err-text_of.why c.in-Ok.ensures.ok
    c.in-Err-text_of.ensures.err
