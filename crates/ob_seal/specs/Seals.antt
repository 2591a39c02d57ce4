-- How cells are spelled: stamped, and sealed.
use Rattle.std.specs.Prelude.{ℕ, List, ◌++◌, take}
use Rattle.std.specs.Int.{w64, to_le_bytes}
use Rattle.sha2.specs.Sha256.{sha256}
use Rattle.ob_seal.specs.declared.keys.Keys.{Keys}
use Rattle.ob_seal.specs.Pads.{pad_of, xored}

abbrev pub le64 : ℕ → List ℕ
le64 n = to_le_bytes w64 n

-- the first half of the digest of the tag key, the cell's number and the bytes
unfoldable pub tag_of : List ℕ → ℕ → List ℕ → List ℕ
tag_of tag_key cell bytes = take 16 (sha256 (tag_key ++ le64 cell ++ bytes))

-- a stamped cell: its plain bytes, then their tag
unfoldable pub stamped : Keys → ℕ → List ℕ → List ℕ
stamped keys cell plain = plain ++ tag_of keys.tag cell plain

-- a seal's identity: its generation, then its number
abbrev pub identity_bytes : ℕ → ℕ → List ℕ
identity_bytes generation number = le64 generation ++ le64 number

-- what a sealed cell has before its tag: its seal's identity, then the plain bytes changed by the pad
unfoldable pub sealed_front : Keys → ℕ → ℕ → List ℕ → List ℕ
sealed_front keys generation number plain =
    identity_bytes generation number ++ xored plain (pad_of keys.seal generation number)

-- a sealed cell: that, then its tag
unfoldable pub sealed : Keys → ℕ → ℕ → ℕ → List ℕ → List ℕ
sealed keys cell generation number plain = stamped keys cell (sealed_front keys generation number plain)
