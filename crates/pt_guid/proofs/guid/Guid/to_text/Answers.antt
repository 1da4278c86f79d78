use Rattle.std.proofs.Common.{◌≡◌, ap, ◌∙◌}
use Rattle.uuid.specs.Text.{hyphenated_text, lower}
use Rattle.pt_guid.specs.Guids.{stored_of, text_of}
use Rattle.pt_guid.proofs.Terms.{text_reads_back}
use Rattle.pt_guid.proofs.guid.Guid.to_text.Goals as goal

pub returns-clause-text : goal.returns-clause-text
returns-clause-text c = c.write_text.ensures ∙ ap (hyphenated_text lower) c.in_text_order-bytes.ensures.value

pub returns-clause-read : goal.returns-clause-read
returns-clause-read c =
    let order = c.in_text_order-bytes.ensures in
    let text : c.write_text.result.now ≡ text_of c.args.self.now.0 = c.write_text.ensures ∙ ap (hyphenated_text lower) order.value in
    ap stored_of text ∙ text_reads_back c.args.self.now.0 order.whole order.bytes
