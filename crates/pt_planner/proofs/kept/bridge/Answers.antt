use Rattle.pt_planner.proofs.kept.bridge.Goals as goal

pub returns-in-Ok : goal.returns-in-Ok
returns-in-Ok g c = λ h is. record {
  header = c.in-Ok.header;
  is_backup = c.in-Ok.ensures.ok;
  written = record {
    header = rw (c.header_at.ensures, c.header_at-in-Ok.ensures) at c.encode_header.ensures.header;
    size = c.encode_header.ensures.size;
    reserved = c.encode_header.ensures.reserved;
    rest = c.encode_header.ensures.rest;
  };
}
