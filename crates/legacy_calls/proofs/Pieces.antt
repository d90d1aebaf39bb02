-- A run with legacy code goes in pieces: events of legacy code, and what C writes.
use Rattle.std.proofs.Common.{◌≡◌, Bool, true, false, ◌==◌, [], ◌∷◌, refl, ap, ◌∙◌}
use Rattle.mx_base.specs.World.{World, Log, number_written}
use Rattle.x86_forms.specs.Processor.{Processor}
use Rattle.x86_forms.specs.Watch.{landing}
use Rattle.obj_file.specs.Machine.{Event, Goes, Stops, event}
use Rattle.obj_file.specs.Stored.{Stored}
use Rattle.fat_ir.proofs.Worlds.{elsewhere}
use Rattle.bounds_plan.specs.laws.Laws.{LeftOutside, OnlyWrites, InPieces, PieceOfC, EventOutside, Joined}
use Rattle.bounds_plan.proofs.Worlds.{only, no_access}
use Rattle.legacy_calls.specs.Legacy.{Linkage, from_state}
use Rattle.obj_file.specs.Beside.{Beside, alone}
use Rattle.obj_file.specs.Keeping.{EventLeaves}
use Rattle.legacy_calls.specs.OfC.{handed, ground_of_c, as_noted, with_return, outside_of_c}
use Rattle.legacy_calls.specs.Pieces.{left_by_event, legacy_event, bit, told, told_by, event_by_numbers}
use Rattle.legacy_calls.proofs.Kept.{KeepsLegacy, one-trace, outside_keeps}

bit-back : (b : Bool) → (bit b == 1) ≡ b
bit-back true = refl
bit-back false = refl

pub told-back : (c : Processor) → told_by (told c) ≡ c
told-back c = λ i. record {
  regs = c.regs;
  flags = record { cf = bit-back c.flags.cf i; zf = bit-back c.flags.zf i; sf = bit-back c.flags.sf i; of = bit-back c.flags.of i };
  rip = c.rip;
  bounds = c.bounds;
  preserve = bit-back c.preserve i;
  status = c.status;
}

module _ (k : Linkage) where
  abbrev P : World → Log → World → Log → Type 0
  P = InPieces (event_by_numbers k)

  of_c : (w : World) (l : Log) (u : World) (m : Log) → OnlyWrites w l u m → P w l u m
  of_c w l u m h = PieceOfC w l u m h

  unwritten : (w : World) (l : Log) (u : World) → u.accesses ≡ w.accesses → u.bytes ≡ w.bytes → u.store ≡ w.store → OnlyWrites w l u l
  unwritten w l u a b s = record { judged = no_access w l u l refl a; bytes = λ x none i. b i x; kept = λ g none i. (s i).kept g }

  told_event : (c : Processor) (w : World) (l : Log) → event_by_numbers k (told c) w l ≡ legacy_event k c w l
  told_event c w l = ap (λ (d : Processor). legacy_event k d w l) (told-back c)

  event_piece : (c : Processor) (w : World) (l : Log) (e : Event (Beside Stored Log)) → legacy_event k c w l ≡ left_by_event w e → EventLeaves (λ t. P w l (from_state w (alone t)).world t.memory.notes) e
  event_piece c w l (Goes turn t) e = EventOutside w l (from_state w (alone t)).world t.memory.notes (told c) (told_event c w l ∙ e)
  event_piece c w l (Stops turn why t) e = EventOutside w l (from_state w (alone t)).world t.memory.notes (told c) (told_event c w l ∙ e)

  legacy_pieces : KeepsLegacy k P
  legacy_pieces = record {
    same = λ w l. of_c w l w l (only.same w l);
    join = λ w l u m v n h g. Joined w l u m v n h g;
    turned = λ w l n e. of_c w l _ l (only.turned w l n e);
    handed_over = λ w l b. of_c w l w (handed b l) (only.logged w l (handed b l) (one-trace b l));
    moved = λ w l far sp. of_c w l _ l (unwritten w l _ refl refl refl);
    returned = λ w l sp e. of_c w l (number_written 8 w sp landing) (with_return sp l) record {
      judged = record { more = _ ∷ []; trace = refl; accesses = refl; within = (tt, tt); allowed = (e, tt) };
      bytes = λ x none. elsewhere 8 sp landing x w.bytes (none.0 refl);
      kept = λ g none. refl;
    };
    event = λ z l. event_piece z.processor z.world l (event (ground_of_c k) (as_noted z l)) refl;
  }

  pub outside_in_pieces : LeftOutside (InPieces (event_by_numbers k)) (outside_of_c k)
  outside_in_pieces = outside_keeps k (InPieces (event_by_numbers k)) legacy_pieces
