-- What is noted of a turn, as calls with their replies.
use Rattle.std.specs.Prelude.{List, [], ◌∷◌, map}
use Rattle.ob_serial.specs.Views.{record_of}
use Rattle.ob_base.specs.Writes.{pair_of}
use Rattle.ob_desk.specs.Desk as desk
use Rattle.ob_session.specs.Steps.{steps_of}
use Rattle.ob_hall.specs.declared.turned.Driven.{Driven}
use Rattle.ob_hall.specs.declared.turned.Driven.TheVariants as driven
use Rattle.ob_hall.specs.declared.turned.Noted.{Noted}
use Rattle.ob_hall.specs.declared.turned.Noted.TheVariants as noted

-- a call of the driver's, with its reply
abbrev pub driver_step : Driven → desk.Call × desk.Reply
driver_step (driven.Looks look) = (desk.Looks, desk.Seen look)
driver_step (driven.TakeBatch batch) = (desk.TakeBatch, desk.Batch batch.value.items)
driver_step (driven.Deliver keys values) = (desk.Deliver keys.value.items values.value.items, desk.Done)
driver_step (driven.Close writes) = (desk.Close, desk.Writes (map pair_of writes.value.items))
driver_step (driven.Publish epoch left told) = (desk.Publish epoch left, desk.Published (record_of told.value))
driver_step (driven.Unsure fault) = (desk.Unsure fault, desk.Done)
driver_step (driven.Stop fault) = (desk.Stop fault, desk.Done)
driver_step (driven.IsStopped fault) = (desk.IsStopped, desk.StoppedBy fault)

-- the calls noted
abbrev pub calls_of : Noted → List (desk.Call × desk.Reply)
calls_of (noted.Client made) = steps_of made
calls_of (noted.Driver call) = driver_step call ∷ []
