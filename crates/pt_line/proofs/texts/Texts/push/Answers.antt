use Rattle.std.proofs.Common.{arith}
use Rattle.pt_line.proofs.Pieces.{has_pushed, pushed}
use Rattle.pt_line.proofs.texts.Texts.push.Goals as goal

pub invariant_of-self-2 : goal.invariant_of-self-2
invariant_of-self-2 c =
    has_pushed c.self.inside.ends.items c.self.inside.bytes.items c.args.text.now _ _ c.self.invariant c.utf8.text record {
      bytes_are = grind (arith, c.in_ok-extend_from_slice.ensures.items, c.as_bytes.ensures.value);
      ends_are = grind (arith, c.in_ok-push.ensures.items, c.reserve.ensures.items, c.len.ensures);
    }

pub returns : goal.returns
returns c = record {
  ok = pushed c.self.inside.ends.items c.self.inside.bytes.items c.args.text.now _ _ c.args.self.now c.self.invariant
      c.self.view_is record {
        bytes_are = grind (arith, c.in_ok-extend_from_slice.ensures.items, c.as_bytes.ensures.value);
        ends_are = grind (arith, c.in_ok-push.ensures.items, c.reserve.ensures.items, c.len.ensures);
      };
}
