-- A pass stays one of its hall, whatever it calls.
use Rattle.std.proofs.Common.{◌≡◌, ◌<◌, ℕ, Some, arith, sym, ap, subst, ◌∙◌}
use Rattle.ob_desk.specs.Desk.{DeskState}
use Rattle.atomic_table.specs.declared.shared.Seat.{Seat}
use Rattle.ob_session.specs.Clients.{told_of, last_of, has_signed_off}
use Rattle.ob_turn.specs.declared.bell.Heard.{Heard}
use Rattle.ob_turn.specs.declared.turn.View.{View}
use Rattle.ob_turn.specs.History.{entries_of}
use Rattle.ob_turn.specs.TurnCalls as turns
use Rattle.ob_turn.specs.TurnCalls.{TurnSeat}
use Rattle.ob_hall.specs.Passes.{Steps, Hall, Pass, said_of, IsPassOf, IsOutOfTurn, IsEarOf, EntersTurn, NotesTurn, LeavesTurn, IsNumberTold, IsRaised}
use Rattle.ob_hall.specs.Calling.{IsReady, StandsAs}

abbrev TSeat : Type 0
TSeat = TurnSeat DeskState Steps

abbrev IsEar : Hall → Seat (Unit {0}) Heard → Type 0
IsEar hall ear = IsEarOf hall ear

pub entered_own : (hall : Hall) (before after : Pass) (d : DeskState) → IsPassOf hall before → EntersTurn hall before after d → IsPassOf hall after
entered_own hall before after d own e = record {
  seat = e.enters.same.table ∙ own.seat;
  ear = subst (λ x. IsEar hall x) (sym e.beside.ear) own.ear;
  opening = (λ i. (e.enters.knows i).opening) ∙ own.opening;
  opens = own.opens;
  own = e.enters.own;
  one_part = (λ i. (e.enters.knows i).parts) ∙ own.one_part;
}

pub noted_own : (hall : Hall) (before after : Pass) (calls : Steps) → IsPassOf hall before → NotesTurn before after calls → IsPassOf hall after
noted_own hall before after calls own n = record {
  seat = n.notes.same.table ∙ own.seat;
  ear = subst (λ x. IsEar hall x) (sym n.beside.ear) own.ear;
  opening = (λ i. (n.notes.knows i).opening) ∙ own.opening;
  opens = own.opens;
  own = subst (λ (v : View DeskState Steps). entries_of v.by v.seen ≡ v.mine) (sym n.notes.knows) own.own;
  one_part = (λ i. (n.notes.knows i).parts) ∙ own.one_part;
}

pub left_own : (hall : Hall) (before after : Pass) (calls : Steps) → IsPassOf hall before → LeavesTurn before after calls → IsPassOf hall after
left_own hall before after calls own l = record {
  seat = l.ends.same.table ∙ own.seat;
  ear = subst (λ x. IsEar hall x) (sym l.beside.ear) own.ear;
  opening = (λ i. (l.ends.knows i).0.opening) ∙ own.opening;
  opens = own.opens;
  own = l.ends.own;
  one_part = (λ i. (l.ends.knows i).0.parts) ∙ own.one_part;
}

pub left_out : (hall : Hall) (before after : Pass) (calls : Steps) → IsPassOf hall before → LeavesTurn before after calls → IsOutOfTurn after
left_out hall before after calls own l = record {
  stage = λ i. (l.ends.knows i).0.stage;
  some_part = subst (λ (n : ℕ). 0 < n) (sym ((λ i. (l.ends.knows i).0.parts) ∙ own.one_part)) (omega arith);
  empty = λ i. (l.ends.knows i).1;
}

with_ear : (hall : Hall) (before after : Pass) → IsPassOf hall before → after.seat ≡ before.seat → IsEarOf hall after.ear → IsPassOf hall after
with_ear hall before after own seat ear = record {
  seat = ap (λ (s : TSeat). s.table_id) seat ∙ own.seat;
  ear = ear;
  opening = ap (λ (s : TSeat). s.me.0.opening) seat ∙ own.opening;
  opens = own.opens;
  own = subst (λ (s : TSeat). entries_of s.me.0.by s.me.0.seen ≡ s.me.0.mine) (sym seat) own.own;
  one_part = ap (λ (s : TSeat). s.me.0.parts) seat ∙ own.one_part;
}

pub told_own : (hall : Hall) (before after : Pass) (number : ℕ) → IsPassOf hall before → IsNumberTold before after number → IsPassOf hall after
told_own hall before after number own t = with_ear hall before after own t.seat (record {
  bell = record { table = t.reads.same.table ∙ own.ear.bell.table; empty = t.reads.same.empty ∙ own.ear.bell.empty };
  one_part = (λ i. (t.reads.knows i).parts) ∙ own.ear.one_part;
  as_many = own.ear.as_many;
})

pub raised_own : (hall : Hall) (before after : Pass) (epoch : ℕ) → IsPassOf hall before → IsRaised before after epoch → IsPassOf hall after
raised_own hall before after epoch own r = with_ear hall before after own r.seat (record {
  bell = record { table = r.raises.same.table ∙ own.ear.bell.table; empty = r.raises.same.empty ∙ own.ear.bell.empty };
  one_part = (λ i. (r.raises.knows i).parts) ∙ own.ear.one_part;
  as_many = own.ear.as_many;
})

-- Where its client stands it stands still.
pub told_stands : (before after : Pass) (number : ℕ) → IsNumberTold before after number → StandsAs before after
told_stands before after number t =
    let said : said_of after ≡ said_of before = λ i. said_of (record { seat = t.seat i; ear = before.ear; client = t.client i; last = before.last }) in (
      λ b. record { here = ap has_signed_off said ∙ b.here; over = λ u is. b.over u (sym (ap (λ (s : Steps). last_of (told_of s)) said) ∙ is) },
      λ x b. record {
        told = b.told;
        last = ap (λ (s : Steps). last_of (told_of s)) said ∙ b.last;
        named = b.named;
        client = b.client ∙ sym t.client;
        kept = t.last ∙ b.kept;
        open_is = b.open_is;
      },
    )

pub told_ready : (hall : Hall) (before after : Pass) (number : ℕ) → IsNumberTold before after number → IsReady hall before → IsReady hall after
told_ready hall before after number t r = record {
  own = told_own hall before after number r.own t;
  idle = subst (λ (s : TSeat). turns.IsIdle s) (sym t.seat) r.idle;
  clients = record { at = r.clients.at; place = ap (λ (s : TSeat). s.me.0.by) t.seat ∙ r.clients.place; named = r.clients.named ∙ ap (λ (n : ℕ). Some n) (sym t.client) };
}
