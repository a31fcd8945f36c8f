pub mod HeldWalker
