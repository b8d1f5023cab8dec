use Rattle.std.specs.Prelude.{ℕ}

-- The most bytes that a name can have.
abbrev pub name_limit : ℕ
name_limit = 512
