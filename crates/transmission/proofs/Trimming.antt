-- A part whose trailing open spaces are being counted.
use Rattle.std.proofs.Common.{◌≡◌, ℕ, ◌+◌, ◌≤◌, List, length, filter}
use Rattle.std.specs.List.{suffix_len, between}
use Rattle.screen.specs.Cells.{Cell}
use Rattle.transmission.specs.declared.kind.Kind.{Kind}
use Rattle.transmission.specs.Text.{is_sent, is_open_space}

pub record Trimming (k : Kind) (cs : List Cell) (from stop to left : ℕ) : Type 0 where
  pub low : from ≤ stop
  pub room : stop + left ≤ to
  pub behind : length (filter (is_sent k) (between stop to cs)) ≡ left
  pub same : left + suffix_len is_open_space (filter (is_sent k) (between from stop cs)) ≡ suffix_len is_open_space (filter (is_sent k) (between from to cs))
