-- The driver's turn up to its look, and the end of a turn in which nothing was done.
use Rattle.std.proofs.Common.{◌≡◌, ◌∙◌, ◌⊎◌, ◌<◌, ◌≤◌, ℕ, All, List, [], ◌∷◌, ◌++◌, Option, None, Some, refl, sym, ap, subst, inl, inr}
use Rattle.std.proofs.lemmas.Option.{none-some, same_Some}
use Rattle.ob_base.specs.declared.fault.Fault.{Fault}
use Rattle.ob_base.specs.declared.fault.Fault.TheVariants.{Memory}
use Rattle.ob_base.specs.declared.params.Params.{Params}
use Rattle.ob_serial.specs.Vaults.{VaultCounts}
use Rattle.ob_desk.specs.Desk as desk
use Rattle.ob_desk.specs.Desk.{DeskState, Call, Reply, look_at}
use Rattle.ob_desk.specs.declared.calls.Look.{Look}
use Rattle.ob_turn.specs.declared.turn.Entry.{Entry}
use Rattle.ob_turn.specs.declared.bell.Heard.{Heard}
use Rattle.ob_turn.specs.BellHistory.{latest}
use Rattle.ob_turn.specs.History.{IsAt, LeadsFromOpening}
use Rattle.ob_turn.proofs.Entries.{leads-snoc}
use Rattle.atomic_table.specs.declared.shared.Seat.{Seat}
use Rattle.ob_hall.specs.Turns.{IsTurn}
use Rattle.ob_hall.specs.Passes.{Steps, Hall, Pass, opening_of, pass_place, history_of, entries_by, raised_by, calls_in, own_calls, IsPassOf, IsLegal, EntersTurn, NotesTurn, LeavesTurn}
use Rattle.ob_hall.specs.Rounds.{rounds_of, rounds_behind}
use Rattle.ob_conduct.proofs.Acting.{over_desk}
use Rattle.ob_conduct.specs.Acts.{look_calls, IsToFetch}
use Rattle.ob_conduct.specs.Ready.{IsBetweenActs}
use Rattle.ob_driver.specs.Resting.{params_of, IsMild, noted_by, IsWhere, IsInTurn}
use Rattle.ob_driver.specs.Turning.{NotesMore, MakesTurn}
use Rattle.ob_driver.specs.Inside.{IsLooking}
use Rattle.ob_driver.specs.Looks.{IsLastLook}
use Rattle.ob_driver.specs.Drives.{IsOverAt}
use Rattle.ob_driver.proofs.Turning.{call_leads, call_noted, notes_one, notes_join, turn_made}
use Rattle.ob_driver.proofs.Resting.{mid_place, in_turn, none_noted, same_entries, ready_in, still_where}
use Rattle.ob_driver.proofs.Whole.{whole_turn, behind_notes}

-- a desk that was found stopped was stopped for want of memory
pub stop_memory : (p : Params) (d : DeskState) (c : VaultCounts) (fault : Fault) → IsBetweenActs p d c → Some fault ≡ d.stop → fault ≡ Memory
stop_memory p d c fault r is = by r.stop
  where
    by : (d.stop ≡ None) ⊎ (d.stop ≡ Some Memory) → fault ≡ Memory
    by (inl none) = absurd (none-some fault (sym none ∙ sym is))
    by (inr memory) = same_Some fault Memory (is ∙ memory)

-- where a batch is to be fetched one is left
pub some_left : (p : Params) (d : DeskState) (c : VaultCounts) (look : Look) → IsBetweenActs p d c → look ≡ look_at d → IsToFetch look → 0 < c.left
some_left p d c look r seen fetch = subst (λ (n : ℕ). 0 < n) (ap (λ (l : Look). l.left) seen ∙ r.left) fetch.1

-- notes leave the pass where it is
pub where_noted : (hall : Hall) (before after : Pass) (calls : Steps) (c : VaultCounts) → IsWhere hall before c → IsPassOf hall after → NotesMore before after calls → IsWhere hall after c
where_noted hall before after calls c w own n = let same : own_calls after ≡ own_calls before = ap calls_in n.made in record {
  driver = record { own = own; place = n.place ∙ w.driver.place; raises = ap (λ (e : Seat (Unit {0}) Heard). e.me.0.raises) n.ear ∙ w.driver.raises; mild = subst (All IsMild) (sym same) w.driver.mild };
  rounds = ap (rounds_behind (params_of hall).batches (rounds_of (opening_of hall))) same ∙ w.rounds;
  serves = w.serves;
  told = subst (λ (n : ℕ). n ≤ c.epoch) (sym (ap (λ (e : Seat (Unit {0}) Heard). latest 0 e.me.0.seen) n.ear)) w.told;
}

-- Where the turn ends, the history that the pass has seen leads to the desk that it puts back.
pub leaves_legal : (hall : Hall) (now after : Pass) (new : DeskState) (calls : Steps) → IsPassOf hall now → IsAt IsTurn now.seat.me.0 (now.seat.me.0.noted ++ calls ∷ []) new → LeavesTurn now after calls → IsLegal hall (history_of after) new
leaves_legal hall now after new calls own at l = subst (λ (es : List (Entry Steps)). IsLegal hall es new) (sym (λ i. (l.ends.knows i).0.seen))
    (leads-snoc IsTurn (opening_of hall) (history_of now) at.0 new (pass_place now) (now.seat.me.0.noted ++ calls ∷ []) (subst (λ (o : Option DeskState). LeadsFromOpening IsTurn o (history_of now) at.0) own.opening at.1) at.2)

-- the pass is in its turn, and has noted this look in it and nothing else
pub record LooksOn (before now : Pass) (look : Look) : Type 0 where
  pub noted : noted_by now ≡ look_calls look
  pub entries : entries_by now ≡ entries_by before
  pub place : pass_place now ≡ pass_place before
  pub raised : raised_by now ≡ raised_by before

module _ (hall : Hall) (before mid : Pass) (d : DeskState) (c : VaultCounts) (w : IsWhere hall before c) (own : IsPassOf hall mid) (entered : EntersTurn hall before mid d) where
  pub entered_raised : raised_by mid ≡ raised_by before
  entered_raised = ap (λ (e : Seat (Unit {0}) Heard). e.me.0.seen) entered.beside.ear

  -- the desk was found stopped, and the turn ends with that
  pub found_leads : (fault : Option Fault) → fault ≡ d.stop → IsAt IsTurn mid.seat.me.0 (mid.seat.me.0.noted ++ ((desk.IsStopped, desk.StoppedBy fault) ∷ []) ∷ []) d
  found_leads fault is = call_leads hall mid d d (desk.IsStopped, desk.StoppedBy fault) (in_turn hall before mid d w.driver entered own) tt (is, refl) refl

  pub found_turn : (after : Pass) (fault : Option Fault) → LeavesTurn mid after ((desk.IsStopped, desk.StoppedBy fault) ∷ []) → MakesTurn before after ((desk.IsStopped, desk.StoppedBy fault) ∷ [])
  found_turn after fault l = whole_turn hall before mid after d ((desk.IsStopped, desk.StoppedBy fault) ∷ []) w.driver entered (turn_made mid after (desk.IsStopped, desk.StoppedBy fault) l)

  -- it wasn't, and the driver looks
  module _ (one : Pass) (look : Look) (none : None ≡ d.stop) (first : NotesTurn mid one ((desk.IsStopped, desk.StoppedBy None) ∷ [])) (own_one : IsPassOf hall one) where
    one_turn : IsInTurn hall one d
    one_turn = call_noted hall mid one d d (desk.IsStopped, desk.StoppedBy None) (in_turn hall before mid d w.driver entered own) first own_one tt (none, refl) refl

    is_open : d.closed ≡ None
    is_open = (ready_in hall before mid d c w entered).none_closed

    pub looks_lead : look ≡ look_at d → IsAt IsTurn one.seat.me.0 (one.seat.me.0.noted ++ ((desk.Looks, desk.Seen look) ∷ []) ∷ []) d
    looks_lead seen = call_leads hall one d d (desk.Looks, desk.Seen look) one_turn is_open (seen, refl) refl

    -- the turn ends with the look
    pub looked_turn : (after : Pass) → LeavesTurn one after ((desk.Looks, desk.Seen look) ∷ []) → MakesTurn before after (look_calls look)
    looked_turn after l = whole_turn hall before mid after d (look_calls look) w.driver entered
        (behind_notes mid one after ((desk.IsStopped, desk.StoppedBy None) ∷ []) ((desk.Looks, desk.Seen look) ∷ []) (notes_one mid one (desk.IsStopped, desk.StoppedBy None) first) (turn_made one after (desk.Looks, desk.Seen look) l))

    pub over_at : (after : Pass) → LeavesTurn one after ((desk.Looks, desk.Seen look) ∷ []) → look ≡ look_at d → IsLastLook look → IsOverAt hall after
    over_at after l seen last = record {
      desk = d;
      legal = leaves_legal hall one after d ((desk.Looks, desk.Seen look) ∷ []) own_one (looks_lead seen) l;
      over = over_desk d look is_open (sym none) seen last;
    }

    -- or goes on
    module _ (two : Pass) (seen : look ≡ look_at d) (second : NotesTurn one two ((desk.Looks, desk.Seen look) ∷ [])) (own_two : IsPassOf hall two) where
      notes_are : NotesMore mid two (look_calls look)
      notes_are = notes_join mid one two ((desk.IsStopped, desk.StoppedBy None) ∷ []) ((desk.Looks, desk.Seen look) ∷ []) (notes_one mid one (desk.IsStopped, desk.StoppedBy None) first) (notes_one one two (desk.Looks, desk.Seen look) second)

      pub is_looking : IsLooking hall two d c
      is_looking = record {
        look = look;
        noted = notes_are.noted ∙ ap (λ (s : Steps). s ++ look_calls look) (none_noted hall before mid d w.driver entered);
        turn = call_noted hall one two d d (desk.Looks, desk.Seen look) one_turn second own_two is_open (seen, refl) refl;
        at = where_noted hall mid two (look_calls look) c (still_where hall before mid d c w own entered) own_two notes_are;
        ready = ready_in hall before mid d c w entered;
      }

      pub looks_on : LooksOn before two look
      looks_on = record {
        noted = notes_are.noted ∙ ap (λ (s : Steps). s ++ look_calls look) (none_noted hall before mid d w.driver entered);
        entries = notes_are.made ∙ same_entries hall before mid d w.driver entered;
        place = notes_are.place ∙ (mid_place hall before mid d w.driver entered ∙ sym w.driver.place);
        raised = ap (λ (e : Seat (Unit {0}) Heard). e.me.0.seen) (notes_are.ear ∙ entered.beside.ear);
      }
