-- What the answers of the desk's calls are as replies.
use Rattle.ob_desk.specs.Desk.{Reply, Begun, Refused, Value, Waits, Aborted, Done}
use Rattle.ob_desk.specs.declared.calls.Begun.{Begun as CodeBegun}
use Rattle.ob_desk.specs.declared.calls.Begun.TheVariants as begun
use Rattle.ob_desk.specs.declared.calls.Got.{Got}
use Rattle.ob_desk.specs.declared.calls.Got.TheVariants as got
use Rattle.ob_desk.specs.declared.calls.Done.{Done as CodeDone}
use Rattle.ob_desk.specs.declared.calls.Done.TheVariants as done

abbrev pub begun_reply : CodeBegun → Reply
begun_reply (begun.Txn txn) = Begun txn
begun_reply (begun.Stopped fault) = Refused fault

abbrev pub got_reply : Got → Reply
got_reply (got.Value value) = Value value
got_reply got.Queued = Waits
got_reply (got.Aborted why) = Aborted why

abbrev pub done_reply : CodeDone → Reply
done_reply done.Yes = Done
done_reply (done.Aborted why) = Aborted why
