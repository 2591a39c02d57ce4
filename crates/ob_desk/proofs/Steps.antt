-- What a refusal says, and what the order's answers make of the desk.
use Rattle.std.proofs.Common.{◌≡◌, ℕ, ◌+◌, ◌≤◌, ◌^◌, Bool, List, ◌∷◌, [], ◌++◌, length, Option, None, Some, Result, Ok, Err, refl, sym, ap, ap₂, ◌∙◌, subst, add-one}
use Rattle.std.specs.Prelude.{OnErr}
use Rattle.std.proofs.lemmas.Option.{none-some}
use Rattle.ob_order.specs.Order.{OrderState, after_begin, read_reply, after_read, write_reply, after_write}
use Rattle.ob_order.specs.OrderModel.{OrderModel}
use Rattle.ob_order.specs.declared.answers.Read.{Read}
use Rattle.ob_order.specs.declared.answers.Read.TheVariants.{Value as Found, Queued, Full as ReadsAreFull}
use Rattle.ob_order.specs.declared.answers.Wrote.{Wrote}
use Rattle.ob_order.specs.declared.answers.Wrote.TheVariants.{Yes, Conflict as Conflicts, Full as WritesAreFull}
use Rattle.ob_desk.specs.declared.part.Part.{Part as CodePart}
use Rattle.ob_base.specs.declared.params.Params.{Params}
use Rattle.ob_desk.specs.Desk.{DeskState, Part, Txn, Client, Fault, Why, ReadsFull, IsLive, read_past, write_past, reading, writing, BeginStep, GetStep, QueuedStep, ReadsFullStep, WriteStep, WriteRefusedStep, why_refused, new_holder, begin_client, on_client, end_of, setup_with}
use Rattle.ob_shares.specs.declared.shares.Shares.{Shares}
use Rattle.ob_shares.specs.Shares.{Uses}
use Rattle.ob_shares.specs.Seen.{uses_of}
use Rattle.ob_shares.specs.declared.uses.Uses.{Uses as CodeUses}
use Rattle.ob_desk.specs.Parts.{part_of, desk_of, HasRecordRoom, ListsGoing, ArePartsKept}

-- where it failed, this holds
pub told_err : {T E P : Type 0} (r : Result T E) → P → OnErr r P
told_err (Ok x) p = tt
told_err (Err y) p = p

-- the desk before a get or a write, and with the running part's order and uses changed
module _ (shares : Shares) (clients : List Client) (stop : Option Fault) (running other : CodePart) (is_closed : Bool) where
  abbrev with_both : OrderModel → Uses → DeskState
  with_both o uses = record (desk_of shares clients stop running is_closed other) { setup = setup_with o.params shares; running = record (part_of running) { order = o.state; uses = uses } }

-- what a get leaves of the order, and what it names
module _ (shares : Shares) (clients : List Client) (stop : Option Fault) (running other : CodePart) (is_closed : Bool) (o : OrderModel) (uses : CodeUses) (x : Txn) (k : ℕ) (r : Read) where
  abbrev before : DeskState
  before = desk_of shares clients stop running is_closed other

  abbrev after : DeskState
  after = desk_of shares clients stop (record running { order = o; uses = uses }) is_closed other

  abbrev Reads : Type 0
  Reads = uses_of uses ≡ (reading before x k).running.uses

  -- a get is answered
  pub get_step : (value : Option (List ℕ)) (source : ℕ) (d : DeskState) → before ≡ d → IsLive d x → read_past before x k ≡ None → Reads → r ≡ read_reply running.order.params running.order.state x.ticket k
      → o ≡ record running.order { state = after_read running.order.state x.ticket k r } → r ≡ Found value source → GetStep d x k value after
  get_step value source d is live within names reply made found = subst (λ (e : DeskState). GetStep e x k value after) is (record {
    live = subst (λ (e : DeskState). IsLive e x) (sym is) live;
    within = within;
    source = source;
    reply = sym reply ∙ found;
    state = ap₂ (with_both shares clients stop running other is_closed)
        (made ∙ ap (λ (q : Read). let p : OrderModel = record running.order { state = after_read running.order.state x.ticket k q } in p) found) names;
  })

  -- a get waits
  pub queued_step : (d : DeskState) → before ≡ d → IsLive d x → read_past before x k ≡ None → Reads → r ≡ read_reply running.order.params running.order.state x.ticket k
      → o ≡ record running.order { state = after_read running.order.state x.ticket k r } → r ≡ Queued → QueuedStep d x k after
  queued_step d is live within names reply made waits = subst (λ (e : DeskState). QueuedStep e x k after) is (record {
    live = subst (λ (e : DeskState). IsLive e x) (sym is) live;
    within = within;
    reply = sym reply ∙ waits;
    state = ap₂ (with_both shares clients stop running other is_closed)
        (made ∙ ap (λ (q : Read). let p : OrderModel = record running.order { state = after_read running.order.state x.ticket k q } in p) waits) names;
  })

  -- the batches that are left have no place for the key
  pub full_step : (queued left : ℕ) (d new : DeskState) → before ≡ d → IsLive d x → read_past before x k ≡ None → Reads → r ≡ read_reply running.order.params running.order.state x.ticket k
      → o ≡ record running.order { state = after_read running.order.state x.ticket k r } → r ≡ ReadsAreFull queued left
      → new ≡ record after { running = end_of after.running x.ticket (ReadsFull queued left) } → ReadsFullStep d x k (ReadsFull queued left) new
  full_step queued left d new is live within names reply made full ended = subst (λ (e : DeskState). ReadsFullStep e x k (ReadsFull queued left) new) is (record {
    live = subst (λ (e : DeskState). IsLive e x) (sym is) live;
    within = within;
    queued = queued;
    left = left;
    reply = sym reply ∙ full;
    cause = refl;
    state = ended ∙ ap₂ (λ (p : OrderModel) (us : Uses). let q : DeskState = with_both shares clients stop running other is_closed p us in let n : DeskState = record q { running = end_of q.running x.ticket (ReadsFull queued left) } in n) same names;
  })
    where
      same : o ≡ running.order
      same = made ∙ ap (λ (q : Read). let p : OrderModel = record running.order { state = after_read running.order.state x.ticket k q } in p) full

-- what a write leaves of the order, and what it names
module _ (shares : Shares) (clients : List Client) (stop : Option Fault) (running other : CodePart) (is_closed : Bool) (o : OrderModel) (uses : CodeUses) (x : Txn) (k : ℕ) (value : Option (List ℕ)) (r : Wrote) (d : DeskState) where
  abbrev unwritten : DeskState
  unwritten = desk_of shares clients stop running is_closed other

  abbrev written : DeskState
  written = desk_of shares clients stop (record running { order = o; uses = uses }) is_closed other

  abbrev Writes : Type 0
  Writes = uses_of uses ≡ (writing unwritten x k).running.uses

  -- a write is done
  pub write_step : unwritten ≡ d → IsLive d x → write_past unwritten x k ≡ None → Writes → r ≡ write_reply running.order.params running.order.state x.ticket k
      → o ≡ record running.order { state = after_write running.order.state x.ticket k value r } → r ≡ Yes → WriteStep d x k value written
  write_step is live within names reply made done = subst (λ (e : DeskState). WriteStep e x k value written) is (record {
    live = subst (λ (e : DeskState). IsLive e x) (sym is) live;
    within = within;
    reply = sym reply ∙ done;
    state = ap₂ (with_both shares clients stop running other is_closed)
        (made ∙ ap (λ (q : Wrote). let p : OrderModel = record running.order { state = after_write running.order.state x.ticket k value q } in p) done) names;
  })

  -- a write is refused
  pub refused_step : (why : Why ℕ) (new : DeskState) → unwritten ≡ d → IsLive d x → write_past unwritten x k ≡ None → Writes → r ≡ write_reply running.order.params running.order.state x.ticket k
      → o ≡ record running.order { state = after_write running.order.state x.ticket k value r } → why_refused r ≡ Some why
      → new ≡ record written { running = end_of written.running x.ticket why } → WriteRefusedStep d x k why new
  refused_step why new is live within names reply made cause ended = subst (λ (e : DeskState). WriteRefusedStep e x k why new) is (record {
    live = subst (λ (e : DeskState). IsLive e x) (sym is) live;
    within = within;
    cause = ap why_refused (sym reply) ∙ cause;
    state = ended ∙ ap₂ (λ (p : OrderModel) (us : Uses). let q : DeskState = with_both shares clients stop running other is_closed p us in let n : DeskState = record q { running = end_of q.running x.ticket why } in n) same names;
  })
    where
      kept : (q : Wrote) → why_refused q ≡ Some why → after_write running.order.state x.ticket k value q ≡ running.order.state
      kept Yes e = absurd (none-some why e)
      kept (Conflicts key reader) e = refl
      kept (WritesAreFull keys) e = refl

      same : o ≡ running.order
      same = made ∙ ap (λ (s : OrderState). let p : OrderModel = record running.order { state = s } in p) (kept r cause)

-- another running part with the same number and parameters
module _ (shares : Shares) (clients : List Client) (stop : Option Fault) (running new other : CodePart) (is_closed : Bool) (params : new.order.params ≡ running.order.params) where
  pub kept_part : ArePartsKept running other is_closed stop → new.epoch ≡ running.epoch → HasRecordRoom new → ListsGoing new → ArePartsKept new other is_closed stop
  kept_part kept same room going = record {
    alike = kept.alike ∙ sym params;
    running_room = room;
    other_room = kept.other_room;
    going = going;
    low = λ is none. subst (λ (e : ℕ). e ≤ 2 ^ 62) (sym same) (kept.low is none);
  }

  pub same_desk : part_of new ≡ part_of running → desk_of shares clients stop new is_closed other ≡ desk_of shares clients stop running is_closed other
  same_desk part = ap₂ (λ (p : Params) (q : Part). let d : DeskState = record { setup = setup_with p shares; clients = clients; stop = stop; running = q; closed = (desk_of shares clients stop running is_closed other).closed } in d) params part

  -- the next ticket is drawn
  pub begin_step : (client ticket : ℕ) (begun : List Client) (d : DeskState) → desk_of shares clients stop running is_closed other ≡ d → stop ≡ None
      → part_of new ≡ record (part_of running) { order = after_begin running.order.state; holders = running.holders.items ++ new_holder client ∷ [] }
      → ticket ≡ length running.order.state.works + 1
      → begun ≡ on_client (begin_client (record { client = client; epoch = new.epoch; ticket = ticket })) clients client
      → BeginStep d client (record { client = client; epoch = new.epoch; ticket = ticket }) (desk_of shares begun stop new is_closed other)
  begin_step client ticket begun d is none part next begun_is = subst (λ (e : DeskState). BeginStep e client (record { client = client; epoch = new.epoch; ticket = ticket }) (desk_of shares begun stop new is_closed other)) is (record {
    not_stopped = none;
    next = ap₂ (λ (e t : ℕ). let x : Txn = record { client = client; epoch = e; ticket = t } in x) (ap (λ (p : Part). p.epoch) part) (next ∙ add-one (length running.order.state.works));
    state = ap (λ (cs : List Client). desk_of shares cs stop new is_closed other) begun_is
        ∙ ap₂ (λ (p : Params) (q : Part). let d : DeskState = record {
          setup = setup_with p shares;
          clients = on_client (begin_client (record { client = client; epoch = new.epoch; ticket = ticket })) clients client;
          stop = stop;
          running = q;
          closed = (desk_of shares clients stop running is_closed other).closed;
        } in d) params part;
  })
