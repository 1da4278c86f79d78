use Rattle.std.proofs.Common.{refl, arith, sym, ◌∙◌, ◌≡◌, length}
use Rattle.std.proofs.lemmas.Bool.{false≢true}
use Rattle.pt_follow.proofs.Writes.{shaped, follows_header, follows_outside, follows_array}
use Rattle.pt_follow.proofs.copy.FollowedCopy.write.Goals as goal

pub returns-then-not-is_shaped : goal.returns-then-not-is_shaped
returns-then-not-is_shaped g c d side low f =
    absurd (false≢true (c.if-not-is_shaped.ensures.1 (shaped g.row.B d side c.args.table.now c.args.self.now c.requires f)))

pub returns-then-lba-header_at : goal.returns-then-lba-header_at
returns-then-lba-header_at g c d side low f =
    follows_header g.row.B d side c.args.table.now c.args.self.now c.head_in-self.result c.args.lba.0 c.args.bytes.now c.requires f low
    (c.if-lba-header_at.true ∙ c.header_at.ensures) c.head_in-self.ensures

pub returns-else-has_in_array : goal.returns-else-has_in_array
returns-else-has_in_array g c d side low f =
    follows_outside g.row.B d side c.args.table.now c.args.self.now c.args.lba.0 c.args.bytes.now f
    (λ e. c.if-lba-header_at.false (e ∙ sym c.header_at.ensures)) (λ within. false≢true (c.if-has_in_array.ensures.1 within))

pub returns-then-has_in_array : goal.returns-then-has_in_array
returns-then-has_in_array g c d side low f =
    let long : length c.args.bytes.now ≡ g.row.B = omega arith in
    follows_array g.row.B d side c.args.table.now c.args.self.now c.write_part.new.self c.args.lba.0 c.array_at.result c.args.bytes.now
    c.requires f low long c.array_at.ensures (c.if-has_in_array.ensures.0 refl) c.write_part.ensures
