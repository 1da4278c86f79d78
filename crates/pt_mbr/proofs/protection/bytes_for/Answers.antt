use Rattle.std.proofs.Common.{ap, ◌∙◌, Some}
use Rattle.pt_mbr.specs.Records.{record_bytes}
use Rattle.pt_mbr.specs.declared.record.Record.{Record}
use Rattle.pt_mbr.proofs.Guarding.{protective_laid}
use Rattle.pt_mbr.proofs.protection.bytes_for.Goals as goal

pub returns : goal.returns
returns c =
    protective_laid c.args.sectors c.encode_record.result c.put_bytes.new.bytes
    (c.encode_record.ensures.bytes ∙ ap (λ (r : Record). record_bytes (Some r)) c.record_for.ensures) c.put_bytes.ensures.put
