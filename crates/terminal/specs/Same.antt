-- What no event changes of a terminal.
use Rattle.std.specs.Prelude.{◌≡◌}
use Rattle.terminal.specs.declared.terminal.Terminal.{Terminal}

-- it holds the same screen, which leaves the same untouched, and is the same station
pub record SameTerminal {R L S : Type 0} (untouched : S → R) (old new : Terminal L S) : Type 0 where
  pub screen : new.screen.ghost_name ≡ old.screen.ghost_name
  pub rest : untouched new.screen.now ≡ untouched old.screen.now
  pub identity : new.identity ≡ old.identity
