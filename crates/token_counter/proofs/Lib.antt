pub mod BytesOfCharacters
