-- An extent as the set of its sectors.
use Rattle.pt_sector.specs.Sectors.{Span, span}
use Rattle.pt_sector.specs.declared.address.Extent.{Extent}

-- the sectors of an extent
abbrev pub span_of : Extent → Span
span_of x = span x.first x.last
