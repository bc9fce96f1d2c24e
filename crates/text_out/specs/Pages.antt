-- What a page has room for, and what a store on it does.
use Rattle.std.specs.Prelude.{◌≡◌, ℕ, ◌+◌, ◌≤◌, List, length}
use Rattle.text_out.specs.Stores.{Put}
use Rattle.text_out.specs.declared.page.Page.{Page}

-- the buffer holds the text at the page's place
pub record Room (page : Page) (text : List ℕ) : Type 0 where
  pub fits : page.at + length text ≤ length page.buffer.now

-- the text is put at the page's place in the same buffer, and the place is after it
pub record Appended (old : Page) (text : List ℕ) (new : Page) : Type 0 where
  pub same : new.buffer.ghost_name ≡ old.buffer.ghost_name
  pub put : Put old.buffer.now old.at text new.at new.buffer.now
