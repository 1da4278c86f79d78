use Rattle.pt_planner.proofs.copies.parts.header_sector.Goals as goal

pub returns-clause-bytes : goal.returns-clause-bytes
returns-clause-bytes g c = record {
  header =
      rw (
        c.header_at.ensures,
        c.header_at-2.ensures,
        c.other_side.ensures,
        c.array_at.ensures,
        c.len.ensures,
        c.requires.array.crc,
      ) at c.encode_header.ensures.header;
  size = c.encode_header.ensures.size;
  reserved = c.encode_header.ensures.reserved;
  rest = c.encode_header.ensures.rest;
}
