-- The two kinds of line with a parity bit on top of a character's seven bits.
use Rattle.std.specs.Prelude.{ℕ, ◌+◌, ◌/◌, ◌%◌, Bool, cond, ◌==◌}
use Rattle.line.specs.declared.parity.Parity.{Parity}
use Rattle.line.specs.declared.parity.Parity.TheVariants.{Even, Odd}
use Rattle.line.specs.Kind.{Kind}

-- how many of the eight bits of an octet are set
unfoldable pub ones : ℕ → ℕ
ones o =
    o % 2 + (o / 2 % 2 + (o / 4 % 2 + (o / 8 % 2 + (o / 16 % 2 + (o / 32 % 2 + (o / 64 % 2 + o / 128 % 2))))))

-- the octet has this parity
abbrev pub has_parity : Parity → ℕ → Bool
has_parity Even o = ones o % 2 == 0
has_parity Odd o = ones o % 2 == 1

-- the character as an octet of this parity: the top bit is set where it is needed
abbrev pub with_parity : Parity → ℕ → ℕ
with_parity p c = cond (has_parity p c) c (c + 128)

-- a line of this parity with its full number and its lead
abbrev pub of_parity : Parity → ℕ → ℕ → Kind
of_parity p full lead = record {
  full = full;
  lead = lead;
  octet = with_parity p;
  good = has_parity p;
  character = λ o. o % 128;
}

-- odd parity, two SYN octets to come into step, a lead of four
abbrev pub synchronous : Kind
synchronous = of_parity Odd 2 4

-- even parity, always in step, no lead
abbrev pub asynchronous : Kind
asynchronous = of_parity Even 0 0
