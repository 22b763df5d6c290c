mod AtOnce
