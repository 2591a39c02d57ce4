-- The tags of a store with keys.
use Rattle.ob_seal.specs.declared.keys.Keys.{Keys}
use Rattle.ob_seal.specs.Seals.{tag_of}
use Rattle.ob_twin.specs.Bodies.{Tagging}

-- a tag depends on the tag key, the cell's number and the plain bytes
abbrev pub tagging : Keys → Tagging
tagging keys cell plain = tag_of keys.tag cell plain
