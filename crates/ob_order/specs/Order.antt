-- One epoch without its clients: works, queue, keys in flight and bases, and what each call answers and leaves.
use Rattle.std.specs.Prelude.{ℕ, zero, suc, ◌+◌, ◌-◌, ◌*◌, Bool, not, ◌&&◌, ◌||◌, if◌then◌else◌, ◌==◌, nat_lt, List, [], ◌∷◌, ◌++◌, length, take, drop, map, replicate}
use Rattle.std.specs.Option.{option_or, option_map, unwrap_or, is_some}
use Rattle.std.specs.List.{list_any}
use Rattle.std.specs.declared.option.Option.{Option}
use Rattle.std.specs.declared.option.Option.TheVariants.{None, Some}
use Rattle.std.specs.Ordering.{nat_cmp}
use Rattle.std.specs.FinMap as finite
use Rattle.ob_order.specs.Works.{Get, Work, Version, Going, edit, wait_for, stop_work, newest, source_of, mark, with_op, aborted}
pub use Rattle.ob_base.specs.declared.params.Params.{Params}
pub use Rattle.ob_base.specs.Writes.{write_op}
pub use Rattle.ob_order.specs.declared.answers.Read.{Read}
pub use Rattle.ob_order.specs.declared.answers.Read.TheVariants.{Value as Found, Queued, Full as ReadsAreFull}
pub use Rattle.ob_order.specs.declared.answers.Wrote.{Wrote}
pub use Rattle.ob_order.specs.declared.answers.Wrote.TheVariants.{Yes, Conflict as Conflicts, Full as WritesAreFull}

-- An epoch: batches not yet taken, works by ticket, keys queued, keys in flight, and the values that were delivered.
pub record OrderState : Type 0 where
  pub left : ℕ
  pub works : List Work
  pub queue : List ℕ
  pub flying : List ℕ
  pub bases : finite.FinMap nat_cmp (Option (List ℕ))

-- an epoch that begins
abbrev pub new_order : ℕ → OrderState
new_order left = record { left = left; works = []; queue = []; flying = []; bases = finite.empty }

-- a transaction that begins
abbrev pub fresh : Work
fresh = record { ops = []; fate = Going; waiting = None }

-- after a begin, whose ticket is the number of works then
abbrev pub after_begin : OrderState → OrderState
after_begin o = record o { works = o.works ++ fresh ∷ [] }

-- what a get of k by ticket t is answered from: the newest version at or below t, else the base once it was delivered
abbrev pub answer : OrderState → ℕ → ℕ → Option Version
answer o t k = option_or (newest o.works t k) (option_map (λ v. record { source = 0; value = v }) (finite.get o.bases k))

-- whether a key is queued or in flight
abbrev pub is_asked_for : OrderState → ℕ → Bool
is_asked_for o k = list_any (λ j. j == k) o.queue || list_any (λ j. j == k) o.flying

-- a get that was answered
abbrev pub after_answer : OrderState → ℕ → ℕ → Option (List ℕ) → ℕ → OrderState
after_answer o t k value source = record o { works = with_op o.works t (Get k value source) }

-- with the key in the queue, where it is neither queued nor in flight
abbrev pub asked : OrderState → ℕ → OrderState
asked o k = if is_asked_for o k then o else record o { queue = o.queue ++ k ∷ [] }

-- after a get by ticket t that has to wait for its key
abbrev pub after_queued : OrderState → ℕ → ℕ → OrderState
after_queued o t k = record (asked o k) { works = edit (wait_for k) o.works t }

-- the answer from a version
abbrev pub found : Version → Read
found v = Found v.value v.source

-- a get by a ticket that goes on
abbrev pub read_reply : Params → OrderState → ℕ → ℕ → Read
read_reply p o t k = unwrap_or (option_map found (answer o t k)) (if not (is_asked_for o k) && (length o.queue == p.places * o.left) then ReadsAreFull (length o.queue) o.left else Queued)

-- after a get that was answered so
abbrev pub after_read : OrderState → ℕ → ℕ → Read → OrderState
after_read o t k (Found value source) = after_answer o t k value source
after_read o t k Queued = after_queued o t k
after_read o t k (ReadsAreFull queued left) = o

-- a poll: the get again, which queues nothing
abbrev pub again_reply : OrderState → ℕ → ℕ → Read
again_reply o t k = unwrap_or (option_map found (answer o t k)) Queued

-- after a poll that was answered so
abbrev pub after_again : OrderState → ℕ → ℕ → Read → OrderState
after_again o t k (Found value source) = after_answer o t k value source
after_again o t k Queued = o
after_again o t k (ReadsAreFull queued left) = o

-- the mark of what a write by ticket t would cover
abbrev pub covered_mark : OrderState → ℕ → ℕ → ℕ
covered_mark o t k = mark o.works k (source_of (newest o.works t k))

-- how many numbers below n pass
abbrev pub count_below : (ℕ → Bool) → ℕ → ℕ
count_below p zero = 0
count_below p (suc n) = count_below p n + (if p n then 1 else 0)

-- whether a key has a version of a transaction that isn't aborted
abbrev pub is_written : List Work → ℕ → Bool
is_written ws j = is_some (newest ws (length ws) j)

-- whether j is another key than k, and has such a version
abbrev pub is_other_written : List Work → ℕ → ℕ → Bool
is_other_written ws k j = not (j == k) && is_written ws j

-- how many keys but k have a version of a transaction that isn't aborted
abbrev pub other_keys : Params → OrderState → ℕ → ℕ
other_keys p o k = count_below (is_other_written o.works k) p.keys

-- a put or del by a ticket that goes on
abbrev pub write_reply : Params → OrderState → ℕ → ℕ → Wrote
write_reply p o t k =
    if nat_lt t (covered_mark o t k) then Conflicts k (covered_mark o t k)
    else (if other_keys p o k == p.writes then WritesAreFull p.writes else Yes)

-- after a put or del that was answered so
abbrev pub after_write : OrderState → ℕ → ℕ → Option (List ℕ) → Wrote → OrderState
after_write o t k v Yes = record o { works = with_op o.works t (write_op k v) }
after_write o t k v (Conflicts key reader) = o
after_write o t k v (WritesAreFull keys) = o

-- after an abort of ticket t
abbrev pub after_abort : OrderState → ℕ → OrderState
after_abort o t = record o { works = aborted o.works t }

-- after a stop: all that go on are ended, none because of another
abbrev pub after_stop : OrderState → OrderState
after_stop o = record o { works = map stop_work o.works }

-- after the works were handed over
abbrev pub after_finish : OrderState → OrderState
after_finish o = record o { works = [] }

-- n places with the first keys, and pads
abbrev pub places_of : ℕ → List ℕ → List (Option ℕ)
places_of n queue = map Some (take n queue) ++ replicate (n - length queue) None

-- a batch has the first keys in order of queuing
abbrev pub batch_of : Params → OrderState → List (Option ℕ)
batch_of p o = places_of p.places o.queue

-- what a batch that is in flight asked for
abbrev pub batch_in_flight : Params → OrderState → List (Option ℕ)
batch_in_flight p o = map Some o.flying ++ replicate (p.places - length o.flying) None

-- after a batch was taken: its keys are in flight
abbrev pub after_take : Params → OrderState → OrderState
after_take p o = record o { left = o.left - 1; queue = drop p.places o.queue; flying = take p.places o.queue }

-- the delivered values with these
abbrev pub delivered : finite.FinMap nat_cmp (Option (List ℕ)) → List (Option ℕ) → List (Option (List ℕ)) → finite.FinMap nat_cmp (Option (List ℕ))
delivered bases [] values = bases
delivered bases (key ∷ keys) [] = bases
delivered bases (None ∷ keys) (value ∷ values) = delivered bases keys values
delivered bases (Some k ∷ keys) (value ∷ values) = delivered (finite.insert bases k value) keys values

-- after these values were delivered for these keys
abbrev pub after_deliver : OrderState → List (Option ℕ) → List (Option (List ℕ)) → OrderState
after_deliver o keys values = record o { flying = []; bases = delivered o.bases keys values }
