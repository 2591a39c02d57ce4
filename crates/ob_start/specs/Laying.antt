-- What a crash leaves while a store is begun: its head cleared, its gates shut.
use Rattle.std.specs.Prelude.{◌≡◌, ◌≢◌, ◌<◌, ℕ, false, List, length, get_or, take}
use Rattle.ob_store.specs.Disk.{Disk, Image}
use Rattle.ob_store.specs.Images.{SameBut, IsImageOf}
use Rattle.ob_twin.specs.Bodies.{closed_gate}
use Rattle.ob_twin.specs.Opening.{GatesAre, with_mark}
use Rattle.ob_twin.specs.Register.{place_of}
use Rattle.ob_start.specs.Heads.{head_mark}

-- the two images have the same head
abbrev pub SameHead : Image → Image → Type 0
SameHead a b = a 0 ≡ b 0

-- the image is no store, of any version
abbrev pub HasNoHead : Image → Type 0
HasNoHead image = (version : ℕ) → take 12 (image 0) ≢ head_mark version

-- an image that the store had before, but for its head, which may hold anything
abbrev pub IsTornHead : Disk → Image → Type 0
IsTornHead old image = (d : Image) × IsImageOf old d × SameBut 0 image d

-- each of these gates is closed, as a closed one is written
abbrev pub AreShut : List ℕ → Image → Type 0
AreShut gates image = (i : ℕ) → i < length gates → image (get_or gates i 0) ≡ closed_gate

-- the two images differ in these cells alone
abbrev pub SameButThese : List ℕ → Image → Image → Type 0
SameButThese cells a b = (k : ℕ) → ((i : ℕ) → i < length cells → k ≢ get_or cells i 0) → a k ≡ b k

-- each of these cells lies behind that one
abbrev pub LieBehind : ℕ → List ℕ → Type 0
LieBehind low cells = (i : ℕ) → i < length cells → low < get_or cells i 0

-- of a register's gates just that of this number's place is open
abbrev pub IsOpenAlone : (first n : ℕ) → Image → Type 0
IsOpenAlone first n image = GatesAre (with_mark (record { zero = false; one = false }) (place_of n)) first image
