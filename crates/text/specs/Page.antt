-- What is asked of a page before a text is printed, and what the text leaves. Assumes nothing.
use Rattle.std.specs.Prelude.{◌≡◌, ℕ, ◌+◌, ◌≤◌, List, length}
use Rattle.words.specs.Parts.{put_at}
use Rattle.text.specs.declared.printing.Page.{Page}

-- a text has room from the page's place on
abbrev pub Room : Page → List ℕ → Type 0
Room p text = p.at + length text ≤ length p.out.now

-- a text stands in the page's buffer from its place on, all else there is as before, and the page's place is behind it
pub record Puts (p : Page) (text : List ℕ) (q : Page) : Type 0 where
  pub same_buffer : q.out.ghost_name ≡ p.out.ghost_name
  pub memory : q.out.now ≡ put_at p.out.now p.at text
  pub place : q.at ≡ p.at + length text
