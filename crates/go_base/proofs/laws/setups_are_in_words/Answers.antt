use Rattle.go_base.proofs.SetupsInWords.{black_stands, white_stands, none_stands, none_banned, is_position}
use Rattle.go_base.proofs.SetupsInWords.{refused_exactly}
use Rattle.go_base.proofs.laws.setups_are_in_words.Goals as goal

-- a black stone stands where the black ones do
pub returns-clause-black : goal.returns-clause-black
returns-clause-black c = black_stands

-- and a white one where the white ones do
pub returns-clause-white : goal.returns-clause-white
returns-clause-white c = white_stands

-- and none where neither do
pub returns-clause-elsewhere : goal.returns-clause-elsewhere
returns-clause-elsewhere c = none_stands

-- no play is banned
pub returns-clause-no_ban : goal.returns-clause-no_ban
returns-clause-no_ban c = none_banned

-- each string has a liberty
pub returns-clause-position : goal.returns-clause-position
returns-clause-position c = is_position

-- the tests are the words
pub returns-clause-refused : goal.returns-clause-refused
returns-clause-refused c = refused_exactly
