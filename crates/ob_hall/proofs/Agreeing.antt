-- A desk that a legal history led to agrees with what each client was told by its own entries.
use Rattle.std.proofs.Common.{◌≡◌, ℕ, suc, List, Some, refl, sym, ap, ◌∙◌, subst}
use Rattle.std.specs.List.{Contains, slice_get}
use Rattle.std.specs.List.Sorted.{IsStrictlyIncreasing}
use Rattle.std.proofs.lemmas.Option.{slice_get_within, get_or_from_slice_get}
use Rattle.ob_desk.specs.Desk.{DeskState, new_desk}
use Rattle.ob_session.specs.Steps as steps
use Rattle.ob_session.specs.Clients.{said_by}
use Rattle.ob_session.specs.Agreeing.{Agrees}
use Rattle.ob_session.proofs.Rolls.{new_numbers}
use Rattle.ob_session.proofs.Runs.{calls_agree}
use Rattle.ob_turn.specs.declared.turn.Entry.{Entry}
use Rattle.ob_turn.specs.History.{entries_of, LeadsByTurns}
use Rattle.ob_hall.specs.Turns.{client_numbers, IsTurn}
use Rattle.ob_hall.specs.Passes.{Steps, IsNew, calls_in}
use Rattle.ob_hall.proofs.Histories.{history_leads, said_own}

-- the numbers of a new desk are those that it was made with
pub numbers_are : (opened : DeskState) (n : IsNew opened) → client_numbers opened ≡ n.clients
numbers_are opened n = ap client_numbers n.is ∙ new_numbers n.clients

pub numbers_rise : (opened : DeskState) → IsNew opened → IsStrictlyIncreasing (client_numbers opened)
numbers_rise opened n = subst IsStrictlyIncreasing (sym (numbers_are opened n)) n.opens.rising

is_client : (ns : List ℕ) (at number : ℕ) → slice_get ns at ≡ Some number → Contains ns number
is_client ns at number got = (at, slice_get_within ns at number got, get_or_from_slice_get ns at number number got)

pub agrees : (opened d : DeskState) (history : List (Entry Steps)) (at number : ℕ) → IsNew opened → LeadsByTurns IsTurn opened history d → slice_get (client_numbers opened) at ≡ Some number
    → Agrees d number (said_by number (calls_in (entries_of (suc at) history)))
agrees opened d history at number n led named =
    let leads : steps.Leads (new_desk n.setup n.epoch n.left n.clients) (calls_in history) d = subst (λ (q : DeskState). steps.Leads q (calls_in history) d) n.is (history_leads opened history d led) in
    let one : Contains n.clients number = subst (λ (ns : List ℕ). Contains ns number) (numbers_are opened n) (is_client (client_numbers opened) at number named) in
    subst (Agrees d number) (said_own (client_numbers opened) number at opened history d (numbers_rise opened n) named refl led)
    (calls_agree n.setup n.epoch n.left n.clients (calls_in history) d number n.opens leads one)
