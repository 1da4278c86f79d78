use Rattle.std.proofs.Common.{◌∙◌, arith, sym}
use Rattle.pt_line.proofs.Pieces.{counted, piece_by}
use Rattle.pt_line.proofs.texts.Texts.get.Goals as goal

pub start_of-requires : goal.start_of-requires
start_of-requires c =
    grind (arith, c.requires, c.self.view_is, counted 0 c.self.inside.ends.items c.self.inside.bytes.items, c.deref-2.ensures.value)

pub index-requires : goal.index-requires
index-requires c =
    grind (arith, c.requires, c.self.view_is, counted 0 c.self.inside.ends.items c.self.inside.bytes.items, c.deref-2.ensures.value)

pub text_in-requires-clause-order : goal.text_in-requires-clause-order
text_in-requires-clause-order c =
    (piece_by c.args.self.now c.self.inside.ends.items c.self.inside.bytes.items c.args.index c.start_of.result c.index.result.now
    c.self.invariant (sym c.self.view_is) c.requires (rw c.deref-2.ensures.value at c.start_of.ensures) c.index.ensures).order

pub text_in-requires-clause-within : goal.text_in-requires-clause-within
text_in-requires-clause-within c =
    rw c.deref.ensures.value
    (piece_by c.args.self.now c.self.inside.ends.items c.self.inside.bytes.items c.args.index c.start_of.result c.index.result.now
    c.self.invariant (sym c.self.view_is) c.requires (rw c.deref-2.ensures.value at c.start_of.ensures) c.index.ensures).inside

pub text_in-requires-clause-text : goal.text_in-requires-clause-text
text_in-requires-clause-text c =
    rw c.deref.ensures.value
    (piece_by c.args.self.now c.self.inside.ends.items c.self.inside.bytes.items c.args.index c.start_of.result c.index.result.now
    c.self.invariant (sym c.self.view_is) c.requires (rw c.deref-2.ensures.value at c.start_of.ensures) c.index.ensures).utf8

pub returns : goal.returns
returns c =
    c.text_in.ensures ∙ rw c.deref.ensures.value (sym
    (piece_by c.args.self.now c.self.inside.ends.items c.self.inside.bytes.items c.args.index c.start_of.result c.index.result.now
    c.self.invariant (sym c.self.view_is) c.requires (rw c.deref-2.ensures.value at c.start_of.ensures) c.index.ensures).same)
