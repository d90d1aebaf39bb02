use Rattle.std.specs.Prelude.{length}
use Rattle.std.proofs.Common.{◌∙◌, sym, ap, arith, ◌+◌, ◌-◌, ◌/◌, take, drop}
use Rattle.mx_base.specs.Memory.{with_list}
use Rattle.paged_memory.specs.Touched.{touched_with}
use Rattle.paged_memory.specs.Frames.{frame_in, pages_in, byte_under}
use Rattle.paged_memory.proofs.PageLists.{touched_by-none, touched_by-step, length-touched_front}
use Rattle.paged_memory.proofs.PageBytes.{with_list-none, with_list_piece}
use Rattle.paged_memory.proofs.frames.put.Goals as goal

pub loop-at-init : goal.loop-at-init
loop-at-init c = record {
  within = omega arith;
  sound = c.requires.sound;
  reserved = c.requires.reserved;
  bytes = sym (with_list-none (byte_under (frame_in c.args.slots.now.items) c.args.frames.now) c.args.a);
  pages = sym (touched_by-none c.args.a (pages_in c.args.slots.now.items));
  kept = λ p f has. has;
}

pub put_page-requires-clause-room : goal.put_page-requires-clause-room
put_page-requires-clause-room c =
    let most = c.piece-n.ensures.most in
    let within = c.loop-at.invariant.within in
    let step = ap length (ap (touched_with ((c.args.a + c.loop-at.at) / 4096)) c.loop-at.invariant.pages
    ∙ sym (touched_by-step c.loop-at.at c.piece-n.result c.args.a (pages_in c.args.slots.now.items) c.piece-n.ensures.some c.piece-n.ensures.inside)) in
    let front = length-touched_front (c.loop-at.at + c.piece-n.result) (length c.args.bytes.now) c.args.a (pages_in c.args.slots.now.items) (omega (arith, most, within)) in
    let room = c.requires.room in
    omega (arith, step, front, room)

pub loop-at-preserved : goal.loop-at-preserved
loop-at-preserved c =
    let most = c.piece-n.ensures.most in
    let within = c.loop-at.invariant.within in
    record {
      within = omega (arith, most, within);
      sound = c.put_page.ensures.sound;
      reserved = c.put_page.ensures.reserved;
      bytes = c.put_page.ensures.bytes
          ∙ ap (λ m. with_list m (c.args.a + c.loop-at.at) (take (c.loop-at.at + c.piece-n.result - c.loop-at.at) (drop c.loop-at.at c.args.bytes.now))) c.loop-at.invariant.bytes
          ∙ sym (with_list_piece c.args.bytes.now c.loop-at.at c.piece-n.result (byte_under (frame_in c.args.slots.now.items) c.args.frames.now) c.args.a (omega (arith, most, within)));
      pages = c.put_page.ensures.pages ∙ ap (touched_with ((c.args.a + c.loop-at.at) / 4096)) c.loop-at.invariant.pages
          ∙ sym (touched_by-step c.loop-at.at c.piece-n.result c.args.a (pages_in c.args.slots.now.items) c.piece-n.ensures.some c.piece-n.ensures.inside);
      kept = λ p f has. c.put_page.ensures.kept p f (c.loop-at.invariant.kept p f has);
    }

pub returns-clause-kept : goal.returns-clause-kept
returns-clause-kept c = c.loop-at.invariant.kept
